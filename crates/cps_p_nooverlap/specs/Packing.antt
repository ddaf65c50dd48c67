-- Runs one after the other in a window of time.
use Rattle.std.specs.Prelude.{◌⊎◌, ℕ, ◌<◌, ℤ, pos, ◌+ℤ◌, ◌≤ℤ◌, List, All}
use Rattle.std.specs.List.{AllPairs}

-- when a run starts, and how long it takes
pub record Run : Type 0 where
  pub start : ℤ
  pub length : ℕ

-- where a run takes time, it lies within n units from a time on
abbrev pub LieWithin : ℤ → ℕ → List Run → Type 0
LieWithin a n rs = All (λ r. 0 < r.length → (a ≤ℤ r.start) × ((r.start +ℤ pos r.length) ≤ℤ (a +ℤ pos n))) rs

-- of two runs that take time, one ends before the other starts
abbrev pub AreRunsApart : List Run → Type 0
AreRunsApart rs = AllPairs (λ r u. 0 < r.length → 0 < u.length
    → ((r.start +ℤ pos r.length) ≤ℤ u.start) ⊎ ((u.start +ℤ pos u.length) ≤ℤ r.start)) rs
