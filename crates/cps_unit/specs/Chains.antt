-- Chains of atoms that clauses force, each in the box that the earlier ones left.
use Rattle.std.specs.Prelude.{ℕ, ℤ, ◌≡◌, List, [], ◌∷◌, Any}
use Rattle.cps_literal.specs.declared.atom.Atom.{Atom}
use Rattle.cps_unit.specs.Boxes.{Box, with_atom}
use Rattle.cps_unit.specs.Propagation.{IsUnit}

-- what is left where all these atoms are true as well
abbrev pub with_atoms : Box → List Atom → Box
with_atoms box [] = box
with_atoms box (t ∷ ts) = with_atoms (with_atom box t) ts

-- each atom is forced by a clause that is unit
abbrev pub AreForced : List (List Atom) → Box → List Atom → Type 0
AreForced clauses box [] = Unit {0}
AreForced clauses box (t ∷ ts) = Any (IsUnit box t) clauses × AreForced clauses (with_atom box t) ts

-- propagation comes from the one box to the other
pub record Propagates (clauses : List (List Atom)) (box next : Box) : Type 0 where
  pub forced : List Atom
  pub are_forced : AreForced clauses box forced
  pub same : (s : ℕ) (x : ℤ) → next s x ≡ with_atoms box forced s x
