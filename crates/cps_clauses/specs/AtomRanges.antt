-- How the atoms of all clauses stand in one list.
use Rattle.std.specs.Prelude.{ℕ, ◌≡◌, ◌≤◌, List, ◌++◌, length, slice_index_or, slice_range}
use Rattle.cps_literal.specs.declared.atom.Atom.{Atom}
use Rattle.cps_clauses.specs.declared.atom_range.AtomRange.{AtomRange}
use Rattle.cps_clauses.specs.Watches.{no_atom}

-- the clause at a range
abbrev pub clause_at : List Atom → AtomRange → List Atom
clause_at atoms atom_range = slice_range atoms atom_range.from atom_range.to

pub record IsAtomRange (len : ℕ) (atom_range : AtomRange) : Type 0 where
  pub ordered : atom_range.from ≤ atom_range.to
  pub within : atom_range.to ≤ len

-- a clause's atoms were added at the end, at a range
pub record IsAppended (old new clause : List Atom) (atom_range : AtomRange) : Type 0 where
  pub grows : new ≡ old ++ clause
  pub is : clause_at new atom_range ≡ clause
  pub fits : IsAtomRange (length new) atom_range

-- an atom by its number in a table
abbrev pub atom_in : List Atom → ℕ → Atom
atom_in table n = slice_index_or table n no_atom
