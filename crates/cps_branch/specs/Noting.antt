-- How a brancher in order forgets and notes which places are fixed.
use Rattle.std.specs.Prelude.{ℕ, ◌≡◌, ◌<◌, ◌≤◌, List, length, take, slice_index}
use Rattle.cps_trail.specs.Trail.{Trail}
use Rattle.cps_branch.specs.Fixed.{IsFixedAfter}
use Rattle.cps_branch.specs.Scope.{AreFixedAfter}

-- the first counts stay, and the first entries fix the subjects at their places, whatever the order
pub record ForgetsCounts (kept : ℕ) (old new : List ℕ) : Type 0 where
  pub front : new ≡ take (length new) old
  pub fixed : (order : List ℕ) (n : ℕ) (s : Trail) → AreFixedAfter order n old s kept → (j : ℕ) → j < length new
      → slice_index order j < n → IsFixedAfter s.first (take kept s.entries) (slice_index order j)

-- the counts stay, and the same count is added up to a place
pub record Notes (place count : ℕ) (old new : List ℕ) : Type 0 where
  pub places : length new ≡ place
  pub kept : (i : ℕ) → i < length old → slice_index new i ≡ slice_index old i
  pub added : (i : ℕ) → length old ≤ i → i < place → slice_index new i ≡ count
