-- Which reasons lead from the box of a clause to a conflict, over what level 0 left to the subjects.
use Rattle.std.specs.Prelude.{ℕ, ◌≤◌, ◌<◌, ℤ, ◌≡◌, Bool, true, List, [], ◌∷◌, ◌++◌, map, length, slice_index_or, take, All, Contains}
use Rattle.cps_literal.specs.declared.atom.Atom.{Atom}
use Rattle.cps_literal.specs.Truth.{meets}
use Rattle.cps_trail.specs.Trail.{Trail, Entry, Explains, admits, leaves, up_to}
use Rattle.cps_trail.specs.Changes.{IsEntryOn}
use Rattle.cps_unit.specs.Boxes.{Box, denied, IsBelow, IsFalseIn, IsTrueIn}
use Rattle.cps_unit.specs.Propagation.{LeadsToConflict}
use Rattle.cps_unit.specs.Chains.{Propagates}
use Rattle.cps_conflict.specs.declared.certifier.Antecedent.{Antecedent}
use Rattle.cps_conflict.specs.Conflicts.{Reasons}
use Rattle.cps_conflict.specs.Leading.{is_marked}

-- what level 0 leaves to the subjects
abbrev pub left_at_bottom : Trail → Box
left_at_bottom s = admits s.first (up_to 0 s.entries)

-- what is left of that where all atoms of a clause are false
abbrev pub denied_at_bottom : Trail → List Atom → Box
denied_at_bottom s clause = denied (left_at_bottom s) clause

-- the reasons of antecedents
abbrev pub reasons_of : List Antecedent → List (List Atom)
reasons_of found = map (λ (a : Antecedent). a.reason) found

-- each is a reason of its entry
abbrev pub AreReasons : Reasons → List Antecedent → Type 0
AreReasons makes found = All (λ (a : Antecedent). makes a.entry a.reason) found

-- Antecedents certify a clause: each is a reason of its entry, and unit propagation over them and the conflict, from
-- what level 0 leaves where all atoms of the clause are false, comes to a clause that is false.
pub record Certifies (makes : Reasons) (s : Trail) (conflict clause : List Atom) (found : List Antecedent) : Type 0 where
  pub fetched : AreReasons makes found
  pub leads : LeadsToConflict (reasons_of found ++ conflict ∷ []) (denied_at_bottom s clause)

-- a box leaves no more than that, and makes the atom of each entry true that is known
pub record IsKnownIn (s : Trail) (clause : List Atom) (known : List Bool) (box : Box) : Type 0 where
  pub below : IsBelow box (denied_at_bottom s clause)
  pub holds : (k : ℕ) (d : Entry) → k < length s.entries → is_marked known k ≡ true
      → IsTrueIn box (slice_index_or s.entries k d).atom

-- an atom is false in each such box
abbrev pub IsRefuted : Trail → List Atom → List Bool → Atom → Type 0
IsRefuted s clause known t = (box : Box) → IsKnownIn s clause known box → IsFalseIn box t

-- an entry leaves each value that meets an atom and that such a box leaves
abbrev pub IsPassed : Trail → List Atom → List Bool → Atom → ℕ → Type 0
IsPassed s clause known t k = (box : Box) → IsKnownIn s clause known box → (x : ℤ) (d : Entry)
    → box t.subject x ≡ true → meets t.op t.value x ≡ true
    → leaves t.subject x (slice_index_or s.entries k d) ≡ true

-- how far a walk along the entries about an atom's subject has come, from the first `count`: those from `found` on
-- are passed
pub record PassedSoFar (s : Trail) (clause : List Atom) (known : List Bool) (t : Atom) (count found : ℕ) : Type 0 where
  pub within : found ≤ count
  pub here : IsEntryOn s.entries t.subject found
  pub passed : (k : ℕ) → found ≤ k → k < count → IsPassed s clause known t k

-- how far propagation over reasons has come: to a box in which the atoms of the entries are true that are known
pub record AreForcedSoFar (makes : Reasons) (s : Trail) (clause : List Atom) (known : List Bool) (found : List Antecedent) : Type 0 where
  pub size : length known ≡ length s.entries
  pub fetched : AreReasons makes found
  pub box : Box
  pub forced : Propagates (reasons_of found) (denied_at_bottom s clause) box
  pub is_known : IsKnownIn s clause known box

-- ---- what level 0 forces

-- one of the clauses is a reason of an entry
pub record HasReasonAt (s : Trail) (clauses : List (List Atom)) (k : ℕ) : Type 0 where
  pub clause : List Atom
  pub listed : Contains clauses clause
  pub explains : (d : Entry) → Explains s.first (take k s.entries) clause (slice_index_or s.entries k d).atom

-- propagation comes to a box that leaves no more than the first so many entries do
pub record ComesBelow (s : Trail) (clauses : List (List Atom)) (start : Box) (count : ℕ) : Type 0 where
  pub next : Box
  pub propagates : Propagates clauses start next
  pub below : IsBelow next (admits s.first (take count s.entries))
