-- The rows of a table.
use Rattle.std.specs.Prelude.{◌≡◌, ◌≢◌, ℕ, ◌<◌, ◌≤◌, ◌+◌, ◌*◌, true, false, ℤ, pos, List, [], ◌∷◌, length, slice_index_or, All, Contains, Option}
use Rattle.cps_literal.specs.declared.atom.Atom.{Atom}
use Rattle.cps_literal.specs.Truth.{value_at, meets}
use Rattle.cps_model.specs.Lookups.{row_at}
use Rattle.cps_instance.specs.Parts.{values_at}
use Rattle.cps_trail.specs.Trail.{Trail, admits}
use Rattle.cps_propagate.specs.Now.{IsOpenTo, IsEndNow, AreOpen}
use Rattle.cps_propagate.specs.Lookups.{cell}
use Rattle.cps_rule.specs.Rules.{AllTrueAt}
use Rattle.cps_rule.specs.Facts.{Grows, Denied}
use Rattle.cps_p_lookup.specs.declared.index.Cell.{Cell}
use Rattle.cps_p_lookup.specs.Cells.{IsCellIn}

-- each subject may have its value of a row
pub record IsOpenRow (s : Trail) (es : List ℕ) (row : List ℤ) : Type 0 where
  pub at : (k : ℕ) → k < length es → IsOpenTo s (slice_index_or es k 0) (slice_index_or row k (pos 0))

-- a subject may not
pub record IsDeadRow (s : Trail) (es : List ℕ) (row : List ℤ) : Type 0 where
  pub column : ℕ
  pub within : column < length es
  pub dead : admits s.first s.entries (slice_index_or es column 0) (slice_index_or row column (pos 0)) ≡ false

-- a row of the table that is open
pub record IsLive (s : Trail) (es : List ℕ) (values : List ℤ) (r : ℕ) : Type 0 where
  pub within : (r + 1) * length es ≤ length values
  pub open_row : IsOpenRow s es (row_at (length es) values r)

-- there is an open row, and each end of a column stands in one
pub record AreEndsLive (s : Trail) (es : List ℕ) (values : List ℤ) (k : ℕ) : Type 0 where
  pub some : (r : ℕ) × IsLive s es values r
  pub at : (v : ℤ) → IsEndNow s (slice_index_or es k 0) v → (r : ℕ) × IsLive s es values r × (cell es values r k ≡ v)

-- so it is with the columns up to one
abbrev pub HasEndRows : Trail → List ℕ → List ℤ → ℕ → Type 0
HasEndRows s es values n = (k : ℕ) → k < n → AreEndsLive s es values k

-- a list has the open rows, and no other
pub record AreLive (s : Trail) (es : List ℕ) (values : List ℤ) (rows : List ℕ) : Type 0 where
  pub each : All (IsLive s es values) rows
  pub every : (r : ℕ) → IsLive s es values r → Contains rows r

-- a list has those rows of some cells that are open, and no row that is not
pub record ListsLive (s : Trail) (es : List ℕ) (values : List ℤ) (cells : List Cell) (rows : List ℕ) : Type 0 where
  pub each : All (IsLive s es values) rows
  pub every : All (λ (cell : Cell). IsLive s es values cell.row → Contains rows cell.row) cells

-- facts are added beside which the values are not a row where the atom is false
pub record ClosesRow (s : Trail) (es : List ℕ) (row : List ℤ) (goal : Option Atom) (old new : List Atom) : Type 0 where
  pub grows : Grows s es old new
  pub closed : (xs : List ℤ) → AllTrueAt xs new → values_at xs es ≡ row → Denied goal xs → ⊥

-- the same, said of a row's number
abbrev pub IsClosedRow : List ℕ → List ℤ → Option Atom → List Atom → ℕ → Type 0
IsClosedRow es values goal facts r = (xs : List ℤ) → AllTrueAt xs facts
    → values_at xs es ≡ row_at (length es) values r → Denied goal xs → ⊥

-- a row has a cell in a list
pub record HasRowIn (cells : List Cell) (r : ℕ) : Type 0 where
  pub column : ℕ
  pub value : ℤ
  pub has : Contains cells (record { column = column; value = value; row = r })

-- each row that does not give an atom has a cell in a list
pub record AreSought (es : List ℕ) (values : List ℤ) (goal : Option Atom) (cells : List Cell) : Type 0 where
  pub each : All (IsCellIn (length es) values) cells
  pub every : (xs : List ℤ) → Denied goal xs → (r : ℕ) → (r + 1) * length es ≤ length values
      → values_at xs es ≡ row_at (length es) values r → HasRowIn cells r

-- a subject has no other value than this, or has one
pub record IsSingle (s : Trail) (i : ℕ) (v : ℤ) : Type 0 where
  pub at : (x : ℤ) → IsOpenTo s i x → x ≡ v

pub record HasOtherValue (s : Trail) (i : ℕ) (v : ℤ) : Type 0 where
  pub value : ℤ
  pub reached : IsOpenTo s i value
  pub other : value ≢ v

-- the values are this row wherever they are open, or a column has another value
pub record IsBanned (s : Trail) (es : List ℕ) (row : List ℤ) : Type 0 where
  pub at : (xs : List ℤ) → AreOpen s xs es → values_at xs es ≡ row

pub record IsMissed (s : Trail) (es : List ℕ) (row : List ℤ) : Type 0 where
  pub column : ℕ
  pub within : column < length es
  pub other : HasOtherValue s (slice_index_or es column 0) (slice_index_or row column (pos 0))

-- beside the facts a subject has its value of a row where the atom is false
pub record IsSure (i : ℕ) (v : ℤ) (goal : Option Atom) (facts : List Atom) : Type 0 where
  pub at : (xs : List ℤ) → AllTrueAt xs facts → Denied goal xs → value_at xs i ≡ v

-- a column has an atom's subject, and the row's value there meets the atom; or it does not
pub record IsMetAt (es : List ℕ) (row : List ℤ) (u : Atom) : Type 0 where
  pub column : ℕ
  pub within : column < length es
  pub subject : slice_index_or es column 0 ≡ u.subject
  pub met : meets u.op u.value (slice_index_or row column (pos 0)) ≡ true

pub record IsAgainst (es : List ℕ) (row : List ℤ) (u : Atom) : Type 0 where
  pub column : ℕ
  pub within : column < length es
  pub subject : slice_index_or es column 0 ≡ u.subject
  pub unmet : meets u.op u.value (slice_index_or row column (pos 0)) ≡ false

pub record IsRowBarred (es : List ℕ) (row : List ℤ) (facts : List Atom) : Type 0 where
  pub at : (xs : List ℤ) → AllTrueAt xs facts → values_at xs es ≡ row → ⊥

-- an atom by which a subject does not have a value
pub record IsOffBy (i : ℕ) (v : ℤ) (u : Atom) : Type 0 where
  pub subject : u.subject ≡ i
  pub other : (x : ℤ) → meets u.op u.value x ≡ true → x ≢ v

-- facts are added beside which all values are a row's where the atom is false
pub record AreSure (s : Trail) (es : List ℕ) (row : List ℤ) (goal : Option Atom) (old new : List Atom) : Type 0 where
  pub grows : Grows s es old new
  pub at : (k : ℕ) → k < length es → IsSure (slice_index_or es k 0) (slice_index_or row k (pos 0)) goal new

-- one such fact is added, where it is needed
pub record AddsNeededFact (s : Trail) (i : ℕ) (v : ℤ) (goal : Option Atom) (old new : List Atom) : Type 0 where
  pub grows : Grows s (i ∷ []) old new
  pub sure : IsSure i v goal new
