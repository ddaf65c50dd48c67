use Rattle.std.proofs.Common.{ℕ, ◌<◌, pos, get_or}
use Rattle.cps_propagate.specs.Now.{IsOpenTo}
use Rattle.cps_p_lookup.proofs.rows.is_open.Given as goal

abbrev pub invariant-loop-k : goal.invariant-loop-k
invariant-loop-k l = (j : ℕ) → j < l.k → IsOpenTo l.store (get_or l.exprs j 0) (get_or l.row j (pos 0))
