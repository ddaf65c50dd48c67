-- The variables and subjects that a brancher is over, and what it may keep from one call to the next.
use Rattle.std.specs.Prelude.{ℕ, ◌≡◌, ◌<◌, ◌≤◌, List, length, take, slice_index}
use Rattle.cps_trail.specs.Trail.{Trail, first_of}
use Rattle.cps_instance.specs.Problem.{Problem, variable_count}
use Rattle.cps_branch.specs.Fixed.{IsFixedAfter}
use Rattle.cps_branch.specs.Strategies.{Planned}

-- over how many variables a brancher is, and of how many subjects it may ask, the variables among them
pub record Scope : Type 0 where
  pub variables : ℕ
  pub subjects : ℕ

-- the scope is that of an instance
pub record IsScopeOf (p : Problem) (scope : Scope) : Type 0 where
  pub variables_are : scope.variables ≡ variable_count p
  pub subjects_within : scope.subjects ≤ length p.domains

-- two stores began with the same domains of the first n subjects, and have the same first k entries
pub record AreSameUpTo (n k : ℕ) (s t : Trail) : Type 0 where
  pub domains : (i : ℕ) → i < n → first_of t.first i ≡ first_of s.first i
  pub entries : take k t.entries ≡ take k s.entries

-- what a brancher in order goes through, and the places of that order from the first on that it saw fixed: each with a
-- number of entries after which the subject there and all before it were
pub record InOrder : Type 0 where
  pub plan : Planned
  pub fixed_after : List ℕ

-- Where the first `kept` entries are those of the store that was seen last, what was seen then is so: after the count
-- at a place of the order, the subject there and those before it are fixed, where they are among the first n.
abbrev pub AreFixedAfter : List ℕ → ℕ → List ℕ → Trail → ℕ → Type 0
AreFixedAfter order n counts s kept =
    0 < kept → (i j : ℕ) → i < length counts → slice_index counts i ≤ kept → j ≤ i → slice_index order j < n
    → IsFixedAfter s.first (take (slice_index counts i) s.entries) (slice_index order j)
