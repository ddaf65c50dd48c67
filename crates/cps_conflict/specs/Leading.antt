-- What reasons lead back to from an atom that is false: the entries behind it, and the decisions among them.
use Rattle.std.specs.Prelude.{ℕ, ◌+◌, ◌≤◌, ◌<◌, ℤ, ◌≡◌, ◌≢◌, ◌⊎◌, ⊤, Bool, true, false, if◌then◌else◌, List, [], ◌∷◌, length, take, slice_index_or}
use Rattle.std.specs.List.{All, Contains}
use Rattle.cps_literal.specs.declared.atom.Atom.{Atom}
use Rattle.cps_literal.specs.Truth.{atom_holds, clause_holds}
use Rattle.cps_trail.specs.Trail.{Domains, Trail, Entry, Decision, Because, Explains, IsFalseAfter, IsFalseFrom}
use Rattle.cps_trail.specs.Changes.{IsEntryOn}
use Rattle.cps_conflict.specs.Conflicts.{Reasons}
use Rattle.cps_conflict.specs.Behind.{RulesOut, IsBehind}
use Rattle.cps_conflict.specs.Drafts.{IsBacked}

-- the last of the first `count` entries rules an atom out by itself
pub record IsRuledOutAt (s : Trail) (count : ℕ) (t : Atom) : Type 0 where
  pub last : ℕ
  pub is : count ≡ last + 1
  pub rules_out : (d : Entry) → RulesOut (slice_index_or s.entries last d).atom t

-- a reason of an entry that was kept, or was made from its note
abbrev pub IsFetched : Reasons → Trail → Reasons
IsFetched makes s k clause = ((d : Entry) → (slice_index_or s.entries k d).reason ≡ Because clause) ⊎ makes k clause

-- Reasons lead from an atom that is false to an entry: it is behind the atom, or behind another atom of a reason of an
-- entry to which they lead.
pub data IsLedTo (reasons : Reasons) (s : Trail) (t : Atom) : ℕ → Type 0 where
  at_once : (k : ℕ) → IsBehind s t k → IsLedTo reasons s t k
  by_reason : (j k : ℕ) (reason : List Atom) (u : Atom) → IsLedTo reasons s t j → reasons j reason
      → Contains reason u → ((d : Entry) → u ≢ (slice_index_or s.entries j d).atom) → IsBehind s u k
      → IsLedTo reasons s t k

-- an atom that was decided, by an entry to which reasons lead
pub record IsDecisionBehind (reasons : Reasons) (s : Trail) (t u : Atom) : Type 0 where
  pub place : ℕ
  pub within : place < length s.entries
  pub led : IsLedTo reasons s t place
  pub decided : (d : Entry) → (slice_index_or s.entries place d).reason ≡ Decision
  pub is : (d : Entry) → (slice_index_or s.entries place d).atom ≡ u

-- The decisions behind an atom that is false: reasons lead to each of them; and wherever the constraint holds and all
-- of them are true, the atom is false.
pub record AreBehind (reasons : Reasons) (constraint : List ℤ → Type 0) (s : Trail) (t : Atom) (decisions : List Atom) : Type 0 where
  pub each : All (IsDecisionBehind reasons s t) decisions
  pub enough : (a : List ℤ) → constraint a → IsBacked s a → All (λ u. atom_holds a u ≡ true) decisions
      → atom_holds a t ≡ false

-- the entries that are marked, in order; those past the marks are not
abbrev pub chosen : List Bool → List Entry → List Entry
chosen [] es = []
chosen (m ∷ ms) [] = []
chosen (m ∷ ms) (e ∷ es) = if m then e ∷ chosen ms es else chosen ms es

abbrev pub is_marked : List Bool → ℕ → Bool
is_marked marks k = slice_index_or marks k false

-- what is marked in the one list is marked in the other
abbrev pub AreMore : List Bool → List Bool → Type 0
AreMore [] ns = ⊤
AreMore (m ∷ ms) [] = ⊥
AreMore (m ∷ ms) (n ∷ ns) = (m ≡ true → n ≡ true) × AreMore ms ns

-- what was marked stays so, and nothing else is marked but entries behind an atom
pub record MarksBehind (s : Trail) (t : Atom) (old new : List Bool) : Type 0 where
  pub same_length : length new ≡ length old
  pub more : (k : ℕ) → is_marked old k ≡ true → is_marked new k ≡ true
  pub only : (k : ℕ) → is_marked new k ≡ true → (is_marked old k ≡ true) ⊎ IsBehind s t k

-- the marked entries up to the one at which an atom became false make it false
pub record IsMarkedFalse (s : Trail) (t : Atom) (marks : List Bool) : Type 0 where
  pub count : ℕ
  pub falls : IsFalseFrom s t count
  pub after : IsFalseAfter s.first (chosen (take count marks) s.entries) t

-- the entries behind an atom are marked, unless it is the one that a reason made true
pub record MarksUnless (s : Trail) (t implied : Atom) (old new : List Bool) : Type 0 where
  pub same_length : length new ≡ length old
  pub more : (k : ℕ) → is_marked old k ≡ true → is_marked new k ≡ true
  pub only : (k : ℕ) → is_marked new k ≡ true → (is_marked old k ≡ true) ⊎ ((t ≢ implied) × IsBehind s t k)
  pub falls : t ≢ implied → IsMarkedFalse s t new

-- what was marked stays so; the entries behind each atom of a reason but the one that it made true are marked, and
-- nothing else
pub record MarksReason (s : Trail) (reason : List Atom) (implied : Atom) (old new : List Bool) : Type 0 where
  pub same_length : length new ≡ length old
  pub more : (k : ℕ) → is_marked old k ≡ true → is_marked new k ≡ true
  pub only : (k : ℕ) → is_marked new k ≡ true
      → (is_marked old k ≡ true) ⊎ ((u : Atom) × Contains reason u × (u ≢ implied) × IsBehind s u k)
  pub falls : All (λ u. u ≢ implied → IsMarkedFalse s u new) reason

-- how far a walk along a subject's entries has come, from the first `count` of a store: those from `found` on are
-- marked
pub record MarkedSoFar (s : Trail) (subject count found : ℕ) (old new : List Bool) : Type 0 where
  pub within : found ≤ count
  pub here : IsEntryOn s.entries subject found
  pub same_length : length new ≡ length old
  pub more : (k : ℕ) → is_marked old k ≡ true → is_marked new k ≡ true
  pub only : (k : ℕ) → is_marked new k ≡ true
      → (is_marked old k ≡ true) ⊎ ((k < count) × ((d : Entry) → (slice_index_or s.entries k d).atom.subject ≡ subject))
  pub marked : (k : ℕ) (d : Entry) → found ≤ k → k < count → (slice_index_or s.entries k d).atom.subject ≡ subject
      → is_marked new k ≡ true

-- an entry is a decision, or a clause that is given explains it after others
abbrev pub IsLed : (List Atom → Type 0) → Domains → List Entry → Entry → Type 0
IsLed given first before e =
    (e.reason ≡ Decision) ⊎ ((clause : List Atom) × Explains first before clause e.atom × given clause)

-- a clause is true where the constraint holds and the entries' reasons do
abbrev pub HoldsBacked : (List ℤ → Type 0) → Trail → List Atom → Type 0
HoldsBacked constraint s clause = (a : List ℤ) → constraint a → IsBacked s a → clause_holds clause a ≡ true

-- each marked entry from a place on is led to by the marked ones before it
pub record AreClosedFrom (constraint : List ℤ → Type 0) (s : Trail) (marks : List Bool) (place : ℕ) : Type 0 where
  pub at : (k : ℕ) (d : Entry) → place ≤ k → k < length s.entries → is_marked marks k ≡ true
      → IsLed (HoldsBacked constraint s) s.first (chosen (take k marks) s.entries) (slice_index_or s.entries k d)

-- How far the walk has come: the entries from a place on are closed under reasons, reasons lead to each marked one, and
-- the marked ones make the atom false.
pub record FollowedSoFar (reasons : Reasons) (constraint : List ℤ → Type 0) (s : Trail) (t : Atom) (place : ℕ) (marks : List Bool) : Type 0 where
  pub within : place ≤ length s.entries
  pub same_length : length marks ≡ length s.entries
  pub closed : AreClosedFrom constraint s marks place
  pub led : (k : ℕ) → is_marked marks k ≡ true → IsLedTo reasons s t k
  pub falls : IsMarkedFalse s t marks

-- a walk from one place to an earlier one keeps that for each atom
abbrev pub WalksBack : Reasons → (List ℤ → Type 0) → Trail → ℕ → ℕ → List Bool → List Bool → Type 0
WalksBack reasons constraint s from to old new =
    (t : Atom) → FollowedSoFar reasons constraint s t from old → FollowedSoFar reasons constraint s t to new

-- an atom is that of a decision among the first so many entries, which is marked
pub record IsPicked (s : Trail) (marks : List Bool) (count : ℕ) (t : Atom) : Type 0 where
  pub place : ℕ
  pub before : place < count
  pub marked : is_marked marks place ≡ true
  pub decided : (d : Entry) → (slice_index_or s.entries place d).reason ≡ Decision
  pub is : (d : Entry) → (slice_index_or s.entries place d).atom ≡ t

-- the decisions among the marked ones of the first so many entries
pub record ArePicked (s : Trail) (marks : List Bool) (count : ℕ) (decisions : List Atom) : Type 0 where
  pub all : (k : ℕ) (d : Entry) → k < count → is_marked marks k ≡ true
      → (slice_index_or s.entries k d).reason ≡ Decision → Contains decisions (slice_index_or s.entries k d).atom
  pub only : All (IsPicked s marks count) decisions
