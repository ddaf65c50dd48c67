-- The cells of a table by column and value.
use Rattle.std.specs.Prelude.{◌≡◌, ℕ, ◌+◌, ◌-◌, ◌*◌, ◌<◌, ◌≤◌, ◌^◌, Bool, true, false, ◌&&◌, ◌||◌, ℤ, pos, negsuc, ◌≤ℤ◌, int_le, int_lt, List, length, take, drop, slice_index_or, All, Contains, nat_lt, nat_eq}
use Rattle.std.specs.List.Sorted.{IsPartitionPoint}
use Rattle.cps_literal.specs.declared.atom.Atom.{Atom}
use Rattle.cps_literal.specs.Truth.{meets}
use Rattle.cps_model.specs.Lookups.{row_at}
use Rattle.cps_p_lookup.specs.declared.index.Cell.{Cell}

-- subjects and the rows of a table over them
pub record Tuples : Type 0 where
  pub exprs : List ℕ
  pub values : List ℤ

-- whether a cell comes before those of a column and a value, where they are sorted by column and value
abbrev pub comes_before : ℕ → ℤ → Cell → Bool
comes_before column value cell = nat_lt cell.column column || (nat_eq cell.column column && int_lt cell.value value)

-- the same, or it is one of them
abbrev pub comes_up_to : ℕ → ℤ → Cell → Bool
comes_up_to column value cell = nat_lt cell.column column || (nat_eq cell.column column && int_le cell.value value)

-- they are sorted by column and value
abbrev pub AreGrouped : List Cell → Type 0
AreGrouped cells =
    (i j : ℕ) (d : Cell) → i ≤ j → j < length cells →
    comes_up_to (slice_index_or cells j d).column (slice_index_or cells j d).value (slice_index_or cells i d) ≡ true

-- those of a column and a value begin at an index, and end before one
abbrev pub BeginAt : List Cell → ℕ → ℤ → ℕ → Type 0
BeginAt cells column value first = IsPartitionPoint (λ y. comes_before column value y ≡ true)
    (λ y. comes_before column value y ≡ false) cells first

abbrev pub EndBefore : List Cell → ℕ → ℤ → ℕ → Type 0
EndBefore cells column value end = IsPartitionPoint (λ y. comes_up_to column value y ≡ true)
    (λ y. comes_up_to column value y ≡ false) cells end

-- the cells from one place to before another
abbrev pub part : List Cell → ℕ → ℕ → List Cell
part cells first end = take (end - first) (drop first cells)

-- the value of a row in a column
abbrev pub value_in : ℕ → List ℤ → ℕ → ℕ → ℤ
value_in w values c r = slice_index_or (row_at w values r) c (pos 0)

-- a number of 64 bits
pub record IsWord (v : ℤ) : Type 0 where
  pub low : negsuc (2 ^ 63 - 1) ≤ℤ v
  pub high : v ≤ℤ pos (2 ^ 63 - 1)

-- a cell is in a row that there is
pub record IsCellIn (w : ℕ) (values : List ℤ) (cell : Cell) : Type 0 where
  pub within : (cell.row + 1) * w ≤ length values
  pub word : IsWord cell.value

-- a row's cell in a column is listed
abbrev pub HasCell : ℕ → List ℤ → ℕ → ℕ → List Cell → Type 0
HasCell w values c r cells = Contains cells (record { column = c; value = value_in w values c r; row = r })

-- the cells of the columns before one are listed, and they are in rows that there are
pub record AreListedTo (w : ℕ) (values : List ℤ) (n : ℕ) (cells : List Cell) : Type 0 where
  pub each : All (IsCellIn w values) cells
  pub every : (c : ℕ) → c < n → (r : ℕ) → (r + 1) * w ≤ length values → HasCell w values c r cells

abbrev pub AreListed : ℕ → List ℤ → List Cell → Type 0
AreListed w values cells = AreListedTo w values w cells

-- a column's cells are added, of the rows before one
pub record AddsRows (w : ℕ) (values : List ℤ) (c n : ℕ) (old new : List Cell) : Type 0 where
  pub each : All (IsCellIn w values) old → All (IsCellIn w values) new
  pub kept : (cell : Cell) → Contains old cell → Contains new cell
  pub here : (r : ℕ) → r < n → HasCell w values c r new

-- of all rows
pub record AddsColumn (w : ℕ) (values : List ℤ) (c : ℕ) (old new : List Cell) : Type 0 where
  pub each : All (IsCellIn w values) old → All (IsCellIn w values) new
  pub kept : (cell : Cell) → Contains old cell → Contains new cell
  pub here : (r : ℕ) → (r + 1) * w ≤ length values → HasCell w values c r new

-- all cells of a table over subjects, sorted
pub record AreCells (es : List ℕ) (values : List ℤ) (cells : List Cell) : Type 0 where
  pub grouped : AreGrouped cells
  pub listed : AreListed (length es) values cells

-- a column has an atom's subject
pub record IsColumnOf (es : List ℕ) (c : ℕ) (u : Atom) : Type 0 where
  pub within : c < length es
  pub subject : slice_index_or es c 0 ≡ u.subject

-- the values that do not meet an atom lie between two
pub record CoversUnmet (u : Atom) (ends : ℤ × ℤ) : Type 0 where
  pub low : (v : ℤ) → IsWord v → meets u.op u.value v ≡ false → ends.0 ≤ℤ v
  pub high : (v : ℤ) → IsWord v → meets u.op u.value v ≡ false → v ≤ℤ ends.1
