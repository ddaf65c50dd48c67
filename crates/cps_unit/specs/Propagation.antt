-- Unit propagation over clauses, as a relation: atoms that are forced one after another, until a clause is false.
use Rattle.std.specs.Prelude.{◌≡◌, ◌⊎◌, List, [], ◌∷◌, All, Any, Contains}
use Rattle.cps_literal.specs.declared.atom.Atom.{Atom}
use Rattle.cps_unit.specs.Boxes.{Box, with_atom, IsFalseIn}

-- each other atom of the clause is false
pub record IsUnit (box : Box) (t : Atom) (clause : List Atom) : Type 0 where
  pub listed : Contains clause t
  pub others : All (λ u. (u ≡ t) ⊎ IsFalseIn box u) clause

abbrev pub IsFalseClause : Box → List Atom → Type 0
IsFalseClause box clause = All (IsFalseIn box) clause

-- each atom is forced by a clause that is unit, in the box that the earlier ones left, and then a clause is false
abbrev pub Forces : List (List Atom) → Box → List Atom → Type 0
Forces clauses box [] = Any (IsFalseClause box) clauses
Forces clauses box (t ∷ ts) = Any (IsUnit box t) clauses × Forces clauses (with_atom box t) ts

-- from a box propagation comes to a clause whose atoms are all false
pub record LeadsToConflict (clauses : List (List Atom)) (box : Box) : Type 0 where
  pub forced : List Atom
  pub forces : Forces clauses box forced
