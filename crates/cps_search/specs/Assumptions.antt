-- A model's assumptions in a store: they are decided first, in order; and when some of them cannot all be true.
use Rattle.std.specs.Prelude.{◌≡◌, ◌⊎◌, ◌≢◌, ℕ, ◌+◌, ◌*◌, ◌<◌, ℤ, pos, negsuc, IsTrue, false, Bool, List, [], ◌∷◌, length, take, slice_index_or}
use Rattle.std.specs.List.{All, Contains}
use Rattle.cps_model.specs.declared.bound.Bound.{Bound}
use Rattle.cps_model.specs.declared.bound.Bound.TheVariants.{At, Infinite}
use Rattle.cps_model.specs.declared.model.CpModel.{CpModel}
use Rattle.cps_model.specs.Values.{literals_hold}
use Rattle.cps_model.specs.Solutions.{IsFree}
use Rattle.cps_literal.specs.declared.atom.Atom.{Atom}
use Rattle.cps_instance.specs.Posting.{atom_of}
use Rattle.cps_trail.specs.Trail.{Domains, Entry, Trail, Decision, IsTrueAfter, IsFalseNow}
use Rattle.cps_branch.specs.Choice.{IsUndecided}

-- ---- in a store

-- the assumption with a number, as an atom
abbrev pub assumption_at : List ℤ → ℕ → Atom
assumption_at assumptions i = atom_of (slice_index_or assumptions i (pos 0))

-- an atom is that of an assumption
pub record IsAssumed (assumptions : List ℤ) (t : Atom) : Type 0 where
  pub number : ℕ
  pub within : number < length assumptions
  pub is : t ≡ assumption_at assumptions number

-- each assumption is true after the entries
abbrev pub AreAssumedAfter : List ℤ → Domains → List Entry → Type 0
AreAssumedAfter assumptions first es = (i : ℕ) → i < length assumptions
    → IsTrueAfter first es (assumption_at assumptions i)

-- the first assumption that is undecided
pub record IsOpenAssumption (assumptions : List ℤ) (s : Trail) (i : ℕ) : Type 0 where
  pub within : i < length assumptions
  pub left_open : IsUndecided s (assumption_at assumptions i)
  pub first : (j : ℕ) → j < i → IsUndecided s (assumption_at assumptions j) → ⊥

-- none is
abbrev pub NoneIsOpen : List ℤ → Trail → Type 0
NoneIsOpen assumptions s = (i : ℕ) → i < length assumptions → IsUndecided s (assumption_at assumptions i) → ⊥

-- an atom is that of the first assumption that is undecided
pub record IsAssumedNext (assumptions : List ℤ) (s : Trail) (t : Atom) : Type 0 where
  pub number : ℕ
  pub is_open : IsOpenAssumption assumptions s number
  pub is : t ≡ assumption_at assumptions number

-- what may be decided: while an assumption is undecided, the first such one alone
abbrev pub MayDecide : List ℤ → Trail → Atom → Type 0
MayDecide assumptions s t = IsAssumedNext assumptions s t ⊎ NoneIsOpen assumptions s

-- the first assumption that is false
pub record IsFailedAssumption (assumptions : List ℤ) (s : Trail) (i : ℕ) : Type 0 where
  pub within : i < length assumptions
  pub false_now : IsFalseNow s (assumption_at assumptions i)
  pub first : (j : ℕ) → j < i → IsFalseNow s (assumption_at assumptions j) → ⊥

-- none is
abbrev pub NoneFails : List ℤ → Trail → Type 0
NoneFails assumptions s = (i : ℕ) → i < length assumptions → IsFalseNow s (assumption_at assumptions i) → ⊥

-- each decision on the trail is an assumption, or was made where all assumptions were true
pub record DecidesThemFirst (assumptions : List ℤ) (s : Trail) : Type 0 where
  pub each : (k : ℕ) (d : Entry) → k < length s.entries → (slice_index_or s.entries k d).reason ≡ Decision
      → IsAssumed assumptions (slice_index_or s.entries k d).atom
      ⊎ AreAssumedAfter assumptions s.first (take k s.entries)

-- ---- cores

-- a reference is in the core of a failed assumption: it is that one, or its atom is among the decisions behind it
abbrev pub IsInCore : List ℤ → ℕ → List Atom → ℤ → Type 0
IsInCore assumptions failed decisions r = (r ≡ slice_index_or assumptions failed (pos 0))
    ⊎ Contains decisions (atom_of r)

-- of the members of a list just those that are wanted, each once, in the order in which they first come
abbrev pub AreOnceInOrder : (ℤ → Type 0) → List ℤ → List ℤ → Type 0
AreOnceInOrder wanted [] found = found ≡ []
AreOnceInOrder wanted (r ∷ rs) found =
    (wanted r × ((rest : List ℤ) × (found ≡ r ∷ rest) × AreOnceInOrder (λ x. wanted x × (x ≢ r)) rs rest))
    ⊎ ((wanted r → ⊥) × AreOnceInOrder wanted rs found)

-- Assumptions of a model that are sufficient for its infeasibility: no free assignment makes all of them true.
pub record IsSufficient (m : CpModel) (core : List ℤ) : Type 0 where
  pub among : All (Contains m.assumptions) core
  pub rules_out : (a : List ℤ) → IsFree m a → IsTrue (literals_hold a core) → ⊥

-- what a search ends with that has no solution left below z: sufficient assumptions where no incumbent is known, and
-- else none
abbrev pub IsCoreBelow : CpModel → Bound → List ℤ → Type 0
IsCoreBelow m (At z) core = core ≡ []
IsCoreBelow m Infinite core = IsSufficient m core

-- ---- marks of literals

-- where the mark of a literal stands
abbrev pub mark_of : ℤ → ℕ
mark_of (pos i) = 2 * i
mark_of (negsuc i) = 2 * i + 1

abbrev pub is_marked : List Bool → ℤ → Bool
is_marked marks r = slice_index_or marks (mark_of r) false
