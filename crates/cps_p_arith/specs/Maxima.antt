-- What bounds of members say of the greatest of them.
use Rattle.std.specs.Prelude.{◌≡◌, ◌≢◌, ℕ, ◌<◌, ◌≤ℤ◌, ◌<ℤ◌, Option, Some, List, length, slice_index_or}
use Rattle.cps_p_arith.specs.declared.ends.Ends.{Ends}

-- some member may be as great as the target, and none is surely greater
pub record MayReach (target : Ends) (members : List Ends) : Type 0 where
  pub reached : (k : ℕ) × (k < length members) × ((d : Ends) → target.low ≤ℤ (slice_index_or members k d).high)
  pub above : (k : ℕ) (d : Ends) → k < length members → (slice_index_or members k d).low ≤ℤ target.high

-- all members but one are less than the target
abbrev pub IsAlone : Ends → List Ends → ℕ → Type 0
IsAlone target members k = (j : ℕ) (d : Ends) → j < length members → j ≢ k
    → (slice_index_or members j d).high <ℤ target.low

-- a member that reaches the target, where all others are less
abbrev pub IsOnlyReaching : Ends → List Ends → Option ℕ → Type 0
IsOnlyReaching target members only = (k : ℕ) → k < length members
    → ((d : Ends) → target.low ≤ℤ (slice_index_or members k d).high) → IsAlone target members k → only ≡ Some k
