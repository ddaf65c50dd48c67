-- Boxes: which values are left to each subject, and what they say of atoms. The box of a clause has all values at which
-- none of its atoms is true, so it has all that could make the clause false.
use Rattle.std.specs.Prelude.{◌≡◌, ℕ, ◌<◌, ◌==◌, Bool, true, false, not, ◌&&◌, ◌||◌, ℤ, List, All}
use Rattle.std.specs.List.{list_any}
use Rattle.cps_literal.specs.declared.atom.Atom.{Atom}
use Rattle.cps_literal.specs.Truth.{meets, value_at}

-- whether a subject is left a value
abbrev pub Box : Type 0
Box = ℕ → ℤ → Bool

-- an atom of the clause is true where this subject has this value
abbrev pub is_made_true : List Atom → ℕ → ℤ → Bool
is_made_true clause s x = list_any (λ (t : Atom). (t.subject == s) && meets t.op t.value x) clause

-- what a box leaves where each atom of a clause is false
abbrev pub denied : Box → List Atom → Box
denied box clause s x = box s x && not (is_made_true clause s x)

-- what is left where an atom is true as well
abbrev pub with_atom : Box → Atom → Box
with_atom box t s x = box s x && (not (t.subject == s) || meets t.op t.value x)

-- to one of the first subjects no value is left
pub record IsEmpty (count : ℕ) (box : Box) : Type 0 where
  pub subject : ℕ
  pub within : subject < count
  pub none : (x : ℤ) → box subject x ≡ false

-- each of the first subjects is left a value
pub record HasValues (count : ℕ) (box : Box) : Type 0 where
  pub some : (s : ℕ) → s < count → (x : ℤ) × (box s x ≡ true)

-- values of the first subjects, each of which is left
abbrev pub LieIn : ℕ → Box → List ℤ → Type 0
LieIn count box xs = (s : ℕ) → s < count → box s (value_at xs s) ≡ true

-- all that the one box leaves the other leaves too
pub record IsBelow (box more : Box) : Type 0 where
  pub at : (s : ℕ) (x : ℤ) → box s x ≡ true → more s x ≡ true

-- each value that is left makes the atom false
abbrev pub IsFalseIn : Box → Atom → Type 0
IsFalseIn box t = (x : ℤ) → box t.subject x ≡ true → meets t.op t.value x ≡ false

-- each value that is left makes the atom true
abbrev pub IsTrueIn : Box → Atom → Type 0
IsTrueIn box t = (x : ℤ) → box t.subject x ≡ true → meets t.op t.value x ≡ true

-- all atoms are on the first subjects
abbrev pub AreOn : ℕ → List (List Atom) → Type 0
AreOn count clauses = All (λ c. All (λ t. t.subject < count) c) clauses
