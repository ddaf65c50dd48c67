-- What a core-guided worker assumes beside the model's assumptions: that the subject of each term that weighs something
-- stays at its bound.
use Rattle.std.specs.Prelude.{◌≡◌, ◌⊎◌, ℕ, ℤ, ◌<◌, ◌≤◌, List, length, take, slice_index_or, All}
use Rattle.cps_literal.specs.declared.atom.Atom.{Atom}
use Rattle.cps_trail.specs.Trail.{Domains, Entry, Trail, Decision, IsTrueAfter, IsFalseNow}
use Rattle.cps_branch.specs.Choice.{IsUndecided}
use Rattle.cps_search.specs.Assumptions.{IsAssumed}
use Rattle.cps_reform.specs.declared.held.Held.{Held}
use Rattle.cps_reform.specs.Forms.{term_at}
use Rattle.cps_reform.specs.Marks.{assumed}

-- an atom is the assumption of a term with a weight above 0
pub record IsAssumption (ts : List Held) (t : Atom) : Type 0 where
  pub place : ℕ
  pub within : place < length ts
  pub weighs : 1 ≤ (term_at ts place).weight
  pub is : t ≡ assumed (term_at ts place)

-- each term with a weight above 0 stays at its bound after the entries
abbrev pub AreAssumed : Domains → List Entry → List Held → Type 0
AreAssumed first es ts = All (λ t. 1 ≤ t.weight → IsTrueAfter first es (assumed t)) ts

-- an atom is an assumption of the model, or of a term that weighs something
abbrev pub IsSomeAssumption : List ℤ → List Held → Atom → Type 0
IsSomeAssumption assumptions ts t = IsAssumed assumptions t ⊎ IsAssumption ts t

-- each decision on the trail is such an assumption, or was made where those of all terms were true
pub record AssumesFirst (assumptions : List ℤ) (s : Trail) (ts : List Held) : Type 0 where
  pub each : (k : ℕ) (d : Entry) → k < length s.entries → (slice_index_or s.entries k d).reason ≡ Decision
      → IsSomeAssumption assumptions ts (slice_index_or s.entries k d).atom ⊎ AreAssumed s.first (take k s.entries) ts

-- the first term with a weight above 0 whose assumption is false
pub record IsFailed (s : Trail) (ts : List Held) (place : ℕ) : Type 0 where
  pub within : place < length ts
  pub weighs : 1 ≤ (term_at ts place).weight
  pub false_now : IsFalseNow s (assumed (term_at ts place))
  pub first : (i : ℕ) → i < place → 1 ≤ (term_at ts i).weight → IsFalseNow s (assumed (term_at ts i)) → ⊥

abbrev pub NoTermFails : Trail → List Held → Type 0
NoTermFails s ts = All (λ t. 1 ≤ t.weight → IsFalseNow s (assumed t) → ⊥) ts

-- the first term with a weight above 0 whose assumption is undecided
pub record IsFirstOpenTerm (s : Trail) (ts : List Held) (place : ℕ) : Type 0 where
  pub within : place < length ts
  pub weighs : 1 ≤ (term_at ts place).weight
  pub left_open : IsUndecided s (assumed (term_at ts place))
  pub first : (i : ℕ) → i < place → 1 ≤ (term_at ts i).weight → IsUndecided s (assumed (term_at ts i)) → ⊥
