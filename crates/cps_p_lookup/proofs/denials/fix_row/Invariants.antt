use Rattle.std.proofs.Common.{ℕ, ◌<◌, pos, get_or}
use Rattle.cps_rule.specs.Facts.{Grows}
use Rattle.cps_p_lookup.specs.Tabling.{IsSure}
use Rattle.cps_p_lookup.proofs.denials.fix_row.Given as goal

abbrev pub invariant-loop-k : goal.invariant-loop-k
invariant-loop-k l = record {
  grows : Grows l.past l.exprs l.fn.facts.items l.facts.items;
  sure : (j : ℕ) → j < l.k → IsSure (get_or l.exprs j 0) (get_or l.row j (pos 0)) l.goal l.facts.items;
}
