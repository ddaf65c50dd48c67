-- What the fields of a `LiteralTable` mean.
use Rattle.std.specs.Prelude.{ℕ, ◌≡◌, ◌<◌, ◌==◌, Bool, ◌&&◌, length, Some, slice_get, slice_index_or}
use Rattle.std.specs.Ordering.{int_eq}
use Rattle.std.specs.HashMap.{get, IsUnique}
use Rattle.cps_literal.specs.declared.atom.Atom.{Atom}
use Rattle.cps_literal.specs.declared.table.LiteralTable.TheInside.{Inside}
use Rattle.cps_literal.specs.Normal.{rank}

-- whether two atoms are the same
abbrev pub same_atom : Atom → Atom → Bool
same_atom t u = t.subject == u.subject && (rank t.op == rank u.op && int_eq t.value u.value)

-- the map has the number of each atom of the list, and no other entry
pub record IsIndexed (t : Inside) : Type 0 where
  pub unique : IsUnique same_atom t.numbers
  pub number : (k : ℕ) (d : Atom) → k < length t.atoms.items
      → get same_atom t.numbers (slice_index_or t.atoms.items k d) ≡ Some k
  pub listed : (atom : Atom) (k : ℕ) → get same_atom t.numbers atom ≡ Some k → slice_get t.atoms.items k ≡ Some atom
