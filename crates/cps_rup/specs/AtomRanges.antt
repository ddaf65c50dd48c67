-- How the atoms of all clauses stand in one list.
use Rattle.std.specs.Prelude.{ℕ, ◌≤◌, List, slice_range}
use Rattle.cps_literal.specs.declared.atom.Atom.{Atom}
use Rattle.cps_rup.specs.declared.arena.AtomRange.{AtomRange}

-- the clause at a range
abbrev pub clause_at : List Atom → AtomRange → List Atom
clause_at atoms range = slice_range atoms range.from range.to

pub record IsAtomRange (len : ℕ) (range : AtomRange) : Type 0 where
  pub ordered : range.from ≤ range.to
  pub within : range.to ≤ len
