use Rattle.std.proofs.Common.{ℕ, pos, ◌<◌, ◌≡◌, get_or}
use Rattle.cps_p_alldiff.specs.Owners.{owner_of}
use Rattle.cps_p_alldiff.proofs.judge.are_owned.Given as goal

abbrev pub invariant-loop-k : goal.invariant-loop-k
invariant-loop-k l = (j : ℕ) → j < l.k → owner_of l.owners l.base (get_or l.values j (pos 0)) ≡ j
