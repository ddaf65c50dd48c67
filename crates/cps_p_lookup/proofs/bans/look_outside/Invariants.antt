use Rattle.std.proofs.Common.{ℕ, ◌<◌, true, length}
use Rattle.std.specs.List.{All}
use Rattle.cps_instance.specs.declared.task.Body.TheVariants.{Table}
use Rattle.cps_model.specs.Lookups.{row_at}
use Rattle.cps_rule.specs.Rules.{IsGiven}
use Rattle.cps_propagate.specs.Lookups.{IsRowMissed}
use Rattle.cps_p_lookup.specs.Resting.{AreTrue}
use Rattle.cps_p_lookup.specs.Tabling.{IsMissed}
use Rattle.cps_p_lookup.proofs.bans.look_outside.Given as goal

abbrev pub invariant-loop-row : goal.invariant-loop-row
invariant-loop-row l = record {
  given : All (λ n. IsGiven (Table l.grid.exprs.now l.grid.values.now true) l.store n.target) l.found.items;
  missed : (r : ℕ) → r < l.row → IsMissed l.store l.grid.exprs.now (row_at (length l.grid.exprs.now) l.grid.values.now r);
  rests : AreTrue l.store l.found.items → (r : ℕ) → r < l.row → IsRowMissed l.store l.grid.exprs.now l.grid.values.now r;
}
