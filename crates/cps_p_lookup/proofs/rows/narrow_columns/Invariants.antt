use Rattle.std.proofs.Common.{false}
use Rattle.std.specs.List.{All}
use Rattle.cps_instance.specs.declared.task.Body.TheVariants.{Table}
use Rattle.cps_rule.specs.Rules.{IsGiven}
use Rattle.cps_p_lookup.specs.Resting.{AreTrue}
use Rattle.cps_p_lookup.specs.Tabling.{HasEndRows}
use Rattle.cps_p_lookup.proofs.rows.narrow_columns.Given as goal

abbrev pub invariant-loop-place : goal.invariant-loop-place
invariant-loop-place l = record {
  given : All (λ n. IsGiven (Table l.grid.exprs.now l.grid.values.now false) l.store n.target) l.found.items;
  ends : AreTrue l.store l.found.items → HasEndRows l.store l.grid.exprs.now l.grid.values.now l.place;
}
