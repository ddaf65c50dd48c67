-- The rows of the board that a worker filled itself: how they are noted, and which of them comes back.
use Rattle.std.specs.Prelude.{◌≡◌, ℕ, List, [], ◌∷◌, ◌++◌, Option, Some, None, slice_get}
use Rattle.cps_literal.specs.declared.atom.Atom.{Atom}
use Rattle.cps_port.specs.declared.entry.Entry.{Entry}
use Rattle.cps_port.specs.Entries.{entry_clause}
use Rattle.cps_clauses.specs.InForce.{IsNumberInForce}
use Rattle.cps_clauses.specs.Watches.{clause_of}
use Rattle.cps_search.specs.declared.own_rows.OwnRow.{OwnRow}
use Rattle.cps_search.specs.Shelves.{Shelf}

-- the rows with the one that was left for a clause, if there is one
abbrev pub with_own : List OwnRow → Option ℕ → ℕ → List OwnRow
with_own rows None clause = rows
with_own rows (Some row) clause = rows ++ record { row = row; clause = clause } ∷ []

-- the clause with this number is in force and has just these atoms
pub record StandsAt (b : Shelf) (number : ℕ) (atoms : List Atom) : Type 0 where
  pub in_force : IsNumberInForce b.clauses b.dropped number
  pub same : clause_of b.clauses number ≡ atoms

-- an entry is of the next own row, whose clause still stands
pub record IsOwn (rows : List OwnRow) (taken : ℕ) (b : Shelf) (e : Entry) : Type 0 where
  pub own : OwnRow
  pub next : slice_get rows taken ≡ Some own
  pub row : own.row ≡ e.row
  pub stands : StandsAt b own.clause (entry_clause e)
