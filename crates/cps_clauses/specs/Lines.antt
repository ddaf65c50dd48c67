-- How a journal keeps its items.
use Rattle.std.specs.Prelude.{ℕ, ◌≡◌, List, [], ◌∷◌, ◌++◌, length, map, ⊤}
use Rattle.std.specs.List.{All}
use Rattle.cps_model.specs.declared.bound.Bound.{Bound}
use Rattle.cps_literal.specs.declared.atom.Atom.{Atom}
use Rattle.cps_clauses.specs.declared.journal.JournalItem.{JournalItem}
use Rattle.cps_clauses.specs.declared.journal.JournalItem.TheVariants as items
use Rattle.cps_clauses.specs.declared.journal.Line.{Line}
use Rattle.cps_clauses.specs.declared.journal.Line.TheVariants as lines
use Rattle.cps_clauses.specs.AtomRanges.{clause_at, IsAtomRange}

-- the item of a line, over the atoms of all learnt clauses
abbrev pub item_of : List Atom → Line → JournalItem
item_of atoms (lines.Learnt atom_range below) = items.Learnt (clause_at atoms atom_range) below
item_of atoms (lines.Drop i) = items.Drop i

-- a clause's atoms stand within a list of this length
abbrev pub IsLine : ℕ → Line → Type 0
IsLine len (lines.Learnt atom_range below) = IsAtomRange len atom_range
IsLine len (lines.Drop i) = ⊤

-- the lines that say of these learnt clauses that they were dropped, in order
abbrev pub drop_lines : List ℕ → List Line
drop_lines which = map lines.Drop which

-- the clause that was learnt last, where the last item of a journal is one that was learnt
abbrev pub IsLatest : List JournalItem → List Atom → Type 0
IsLatest journal latest = (earlier : List JournalItem) (clause : List Atom) (below : Bound)
    → journal ≡ earlier ++ items.Learnt clause below ∷ [] → latest ≡ clause

-- the lines of a journal lie within its atoms, and what was learnt last is kept beside them
pub record IsJournalKept (atoms : List Atom) (ls : List Line) (latest : List Atom) : Type 0 where
  pub within : All (IsLine (length atoms)) ls
  pub last : IsLatest (map (item_of atoms) ls) latest
