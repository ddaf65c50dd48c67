-- What is left is the room for what is still to come.
use Rattle.std.specs.Prelude.{sum_by}
use Rattle.std.proofs.Common.{◌≡◌, ◌+◌, ℕ, drop}
use Rattle.cps_validate.proofs.size.after_lists.Given as goal

abbrev pub invariant-loop-length : goal.invariant-loop-length
invariant-loop-length l = l.left + sum_by (λ (n : ℕ). n) l.lengths ≡ l.room + sum_by (λ (n : ℕ). n) (drop l.length-index l.lengths)
