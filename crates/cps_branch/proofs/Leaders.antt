-- Which variable is ahead of which.
use Rattle.std.proofs.Common.{ℕ, ◌≤◌, ◌<◌, ◌≡◌, ◌⊎◌, inl, inr, List, length, get_or, arith}
use Rattle.cps_trail.specs.Trail.{Trail}
use Rattle.cps_branch.specs.Fixed.{IsFixed}
use Rattle.cps_branch.specs.Choice.{IsMostActive}

-- a variable is at least as active as another, and earlier where it is as active
pub record IsAhead (activities : List ℕ) (i j : ℕ) : Type 0 where
  pub activity : get_or activities j 0 ≤ get_or activities i 0
  pub first : get_or activities j 0 ≡ get_or activities i 0 → i ≤ j

pub most_active : (activities : List ℕ) (s : Trail) (best : ℕ) → best < length activities → (IsFixed s best → ⊥) → ((j : ℕ) → j < length activities → IsFixed s j ⊎ IsAhead activities best j) → IsMostActive activities s best
most_active activities s best l open_now each = record {
  within = l;
  open_now = open_now;
  greatest = λ j h not. elim (each j h) [ inl fixed ↦ absurd (not fixed) | inr ahead ↦ ahead.activity ];
  first = λ j h not. elim (each j (omega (arith, h, l))) [ inl fixed ↦ absurd (not fixed) | inr ahead ↦ before (get_or activities j 0) (get_or activities best 0) j h ahead.activity ahead.first ];
}
  where
    before : (a b j : ℕ) → j < best → a ≤ b → (a ≡ b → best ≤ j) → a < b
    before a b j h le tie = grind arith
