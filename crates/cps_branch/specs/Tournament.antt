-- A tournament of n variables: variable i stands at node n + i, and at each node from 1 to n - 1 the winner of the two
-- nodes below it.
use Rattle.std.specs.Prelude.{ℕ, zero, suc, ◌+◌, ◌*◌, ◌<◌, ◌≤◌, ◌≡◌, ◌⊎◌, Bool, true, false, if◌then◌else◌, List, length, slice_index, slice_index_or}
use Rattle.cps_branch.specs.declared.tournament.Contender.{Contender}

-- no contender: one that is out of play
abbrev pub nobody : Contender
nobody = record { variable = 0; activity = 0; in_play = false }

-- who stands at a node
abbrev pub stands_at : List Contender → ℕ → Contender
stands_at nodes k = slice_index_or nodes k nobody

-- One contender is ahead of another: if the other is in play, so is the one, and it is more active, or as active and an
-- earlier variable.
pub record IsAheadOf (one other : Contender) : Type 0 where
  pub plays : other.in_play ≡ true → one.in_play ≡ true
  pub activity : other.in_play ≡ true → other.activity ≤ one.activity
  pub first : other.in_play ≡ true → other.activity ≡ one.activity → one.variable ≤ other.variable

-- of two contenders the one that is ahead
pub record IsWinner (one other winner : Contender) : Type 0 where
  pub is : (winner ≡ one) ⊎ (winner ≡ other)
  pub of_one : IsAheadOf winner one
  pub of_other : IsAheadOf winner other

-- at a node stands the winner of the two below it
abbrev pub IsWon : List Contender → ℕ → Type 0
IsWon nodes k = IsWinner (stands_at nodes (2 * k)) (stands_at nodes (2 * k + 1)) (stands_at nodes k)

-- so it is at each node above n variables
abbrev pub AreWon : ℕ → List Contender → Type 0
AreWon n nodes = (k : ℕ) → 1 ≤ k → k < n → IsWon nodes k

-- or at each but one
abbrev pub AreWonBut : ℕ → List Contender → ℕ → Type 0
AreWonBut n nodes p = (k : ℕ) → 1 ≤ k → k < n → (k ≡ p → ⊥) → IsWon nodes k

-- the nodes are the same but for one
abbrev pub SameNodesBut : ℕ → List Contender → List Contender → Type 0
SameNodesBut p old new = (k : ℕ) → (k ≡ p → ⊥) → stands_at new k ≡ stands_at old k

-- the variables stand as they stood
abbrev pub SameVariables : ℕ → List Contender → List Contender → Type 0
SameVariables n old new = (k : ℕ) → n ≤ k → stands_at new k ≡ stands_at old k

-- each of the variables has its activity
abbrev pub HaveActivities : List ℕ → List Contender → Type 0
HaveActivities activities nodes = (i : ℕ) → i < length activities
    → (stands_at nodes (length activities + i)).activity ≡ slice_index activities i

-- of how many numbers below m the test is false
abbrev pub count_false : (ℕ → Bool) → ℕ → ℕ
count_false test zero = 0
count_false test (suc m) = count_false test m + (if test m then 0 else 1)

-- how many of the n variables are out of play
abbrev pub count_out : ℕ → List Contender → ℕ
count_out n nodes = count_false (λ i. (stands_at nodes (n + i)).in_play) n
