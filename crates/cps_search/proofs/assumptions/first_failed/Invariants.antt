use Rattle.std.proofs.Common.{ℕ, ◌<◌, get_or, ℤ}
use Rattle.cps_instance.specs.Posting.{atom_of}
use Rattle.cps_trail.specs.Trail.{IsFalseNow}
use Rattle.cps_search.proofs.assumptions.first_failed.Given as goal

abbrev pub invariant-loop-number : goal.invariant-loop-number
invariant-loop-number l = (i : ℕ) (d : ℤ) → i < l.number → IsFalseNow l.store (atom_of (get_or l.assumptions i d)) → ⊥
