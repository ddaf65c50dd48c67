-- The places of an index at which the expression may have the target's value.
use Rattle.std.specs.Prelude.{◌≡◌, ◌≢◌, ◌⊎◌, ℕ, ◌<◌, ◌≤◌, ◌+◌, ◌^◌, true, ℤ, pos, ◌≤ℤ◌, List, [], ◌∷◌, length, slice_index_or, All, Contains, Option}
use Rattle.cps_domain.specs.Window.{Window, contains}
use Rattle.cps_literal.specs.declared.atom.Atom.{Atom}
use Rattle.cps_literal.specs.Truth.{value_at, atom_holds}
use Rattle.cps_trail.specs.Trail.{Trail, Domains, IsAdmitted}
use Rattle.cps_propagate.specs.Now.{IsOpenTo}
use Rattle.cps_propagate.specs.Lookups.{IsOpenPlace, IsValueAtPlace}
use Rattle.cps_rule.specs.Rules.{AllTrueAt}
use Rattle.cps_p_lookup.specs.declared.places.Scan.{Scan}
use Rattle.cps_rule.specs.Facts.{Grows, Denied}

-- the index, the target and the expressions have domains
pub record IsFitElement (first : Domains) (i t : ℕ) (es : List ℕ) : Type 0 where
  pub index : i < length first
  pub target : t < length first
  pub exprs : All (λ e. e < length first) es

-- the index is a place, and the expression there has the target's value
pub record IsChosen (i t e k : ℕ) (xs : List ℤ) : Type 0 where
  pub index : value_at xs i ≡ pos k
  pub same : value_at xs e ≡ value_at xs t

-- beside the facts a place is not chosen where the atom is false
pub record IsClosed (i t e k : ℕ) (goal : Option Atom) (facts : List Atom) : Type 0 where
  pub at : (xs : List ℤ) → AllTrueAt xs facts → IsChosen i t e k xs → Denied goal xs → ⊥

-- facts are added that close a place
pub record Closes (s : Trail) (i t e k : ℕ) (goal : Option Atom) (old new : List Atom) : Type 0 where
  pub grows : Grows s (i ∷ t ∷ e ∷ []) old new
  pub closed : IsClosed i t e k goal new

-- a domain has no two values
abbrev pub IsSingleDomain : Window → Type 0
IsSingleDomain D = (x y : ℤ) → contains D x ≡ true → contains D y ≡ true → x ≡ y

-- neither domain lies above the other, and where one of them has a single value, the other has it too
pub record AreMeeting (E T : Window) : Type 0 where
  pub up : (x : ℤ) × (y : ℤ) × (contains E x ≡ true) × (contains T y ≡ true) × (x ≤ℤ y)
  pub down : (x : ℤ) × (y : ℤ) × (contains E x ≡ true) × (contains T y ≡ true) × (y ≤ℤ x)
  pub single : IsSingleDomain E ⊎ IsSingleDomain T → (x : ℤ) × (contains E x ≡ true) × (contains T x ≡ true)

-- a scan has counted a place with this value
pub record IsCovered (k : ℕ) (scan : Scan) (v : ℤ) : Type 0 where
  pub some : 0 < scan.open
  pub alone : scan.open ≡ 1 → scan.last ≡ k
  pub least : scan.least ≤ℤ v
  pub greatest : v ≤ℤ scan.greatest

-- wherever a place is chosen, it is counted
pub record IsSeenAt (s : Trail) (i t e k : ℕ) (scan : Scan) : Type 0 where
  pub at : (xs : List ℤ) → IsAdmitted s.first s.entries xs → IsChosen i t e k xs → IsCovered k scan (value_at xs t)

-- an end of what was counted is that of one place more, or the one before
pub record IsEndOf (count : ℕ) (own old v : ℤ) : Type 0 where
  pub is : (v ≡ own) ⊎ ((0 < count) × (v ≡ old))

-- Of the places before one, that which was counted last is open, and the ends are values at open places. If it is not
-- the only one, the index may have another place too.
pub record IsLastOpen (s : Trail) (i t : ℕ) (es : List ℕ) (n : ℕ) (scan : Scan) : Type 0 where
  pub last : 0 < scan.open → IsOpenPlace s i t es scan.last
  pub before : 0 < scan.open → scan.last < n
  pub least : 0 < scan.open → IsValueAtPlace s i t es scan.least
  pub greatest : 0 < scan.open → IsValueAtPlace s i t es scan.greatest
  pub several : 0 < scan.open → scan.open ≢ 1 → (p : ℕ) × (p ≢ scan.last) × IsOpenTo s i (pos p)

-- one place more is seen
pub record IsPlaceVisited (s : Trail) (i t : ℕ) (es : List ℕ) (k : ℕ) (old new : Scan) : Type 0 where
  pub wider : (p : ℕ) (v : ℤ) → IsCovered p old v → IsCovered p new v
  pub here : IsSeenAt s i t (slice_index_or es k 0) k new
  pub last : IsLastOpen s i t es k old → IsLastOpen s i t es (k + 1) new

-- all places are seen
pub record IsScanned (s : Trail) (i t : ℕ) (es : List ℕ) (scan : Scan) : Type 0 where
  pub seen : (k : ℕ) → k < length es → IsSeenAt s i t (slice_index_or es k 0) k scan
  pub last : IsLastOpen s i t es (scan.last + 1) scan

-- each value of the index is an open place
pub record AreOpenPlaces (s : Trail) (i t : ℕ) (es : List ℕ) : Type 0 where
  pub at : (x : ℤ) → IsOpenTo s i x → (k : ℕ) × (x ≡ pos k) × IsOpenPlace s i t es k

-- each value of a subject lies between two numbers
pub record IsBetween (s : Trail) (subject : ℕ) (low high : ℤ) : Type 0 where
  pub at : (x : ℤ) → IsOpenTo s subject x → (low ≤ℤ x) × (x ≤ℤ high)

-- the target lies between the ends of what was counted, and the expression at a single place between the target's ends
pub record AreEndsKept (s : Trail) (t : ℕ) (es : List ℕ) (scan : Scan) : Type 0 where
  pub target : IsBetween s t scan.least scan.greatest
  pub low : scan.open ≡ 1 → (v : ℤ) → IsOpenTo s (slice_index_or es scan.last 0) v → (x : ℤ) × IsOpenTo s t x × (x ≤ℤ v)
  pub high : scan.open ≡ 1 → (v : ℤ) → IsOpenTo s (slice_index_or es scan.last 0) v → (x : ℤ) × IsOpenTo s t x × (v ≤ℤ x)

-- an atom of the one side of an equation in the place of an atom of the other
pub record IsAtomMoved (e t : ℕ) (goal u : Atom) : Type 0 where
  pub subject : (n : ℕ) → e < n → t < n → u.subject < n
  pub among : (is : List ℕ) → Contains is e → Contains is t → Contains is u.subject
  pub at : (xs : List ℤ) → value_at xs e ≡ value_at xs t → atom_holds xs u ≡ true → atom_holds xs goal ≡ true

-- two atoms that keep two subjects apart
pub record ArePart (e t : ℕ) (u v : Atom) : Type 0 where
  pub first : u.subject ≡ e
  pub second : v.subject ≡ t
  pub at : (xs : List ℤ) → value_at xs e ≡ value_at xs t → atom_holds xs u ≡ true → atom_holds xs v ≡ true → ⊥

-- facts are added that leave the index the places of a window
pub record IsLeft (s : Trail) (i : ℕ) (es : List ℕ) (old new : List Atom) (window : ℕ × ℕ) : Type 0 where
  pub grows : Grows s (i ∷ []) old new
  pub inside : window.1 ≤ length es
  pub small : window.1 < 2 ^ 62
  pub covers : (k : ℕ) → k < length es → (xs : List ℤ) → AllTrueAt xs new → value_at xs i ≡ pos k
      → (window.0 ≤ k) × (k < window.1)
