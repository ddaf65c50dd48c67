use Rattle.std.proofs.Common.{ℕ, ◌<◌, ◌≤◌, pos, get_or}
use Rattle.cps_p_lookup.specs.Tabling.{IsSingle}
use Rattle.cps_p_lookup.proofs.bans.first_open.Given as goal

abbrev pub invariant-loop-k : goal.invariant-loop-k
invariant-loop-k l = (j : ℕ) → l.from ≤ j → j < l.k → IsSingle l.store (get_or l.exprs j 0) (get_or l.row j (pos 0))
