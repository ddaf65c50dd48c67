-- A column of the rows of a table that are left.
use Rattle.std.specs.Prelude.{◌≡◌, ℕ, ℤ, pos, ◌<◌, ◌≤ℤ◌, List, length, slice_index_or, All, Contains}
use Rattle.cps_model.specs.Lookups.{row_at}
use Rattle.cps_trail.specs.Trail.{Trail}
use Rattle.cps_p_lookup.specs.declared.rows.Column.{Column}
use Rattle.cps_p_lookup.specs.Tabling.{AreLive}

-- a column of the open rows of a table over subjects that there are
pub record IsColumnIn (s : Trail) (c : Column) : Type 0 where
  pub fits : All (λ e. e < length s.first) c.grid.exprs.now
  pub place : c.place < length c.grid.exprs.now
  pub rows : AreLive s c.grid.exprs.now c.grid.values.now c.rows.now

-- the value of a row at a column
abbrev pub value_of : Column → ℕ → ℤ
value_of c r = slice_index_or (row_at (length c.grid.exprs.now) c.grid.values.now r) c.place (pos 0)

-- numbers are the least and the greatest value at a column of some rows, and are had by rows of a list
pub record AreEndsOf (c : Column) (some all : List ℕ) (low high : ℤ) : Type 0 where
  pub each : All (λ r. (low ≤ℤ value_of c r) × (value_of c r ≤ℤ high)) some
  pub least : (r : ℕ) × Contains all r × (value_of c r ≡ low)
  pub greatest : (r : ℕ) × Contains all r × (value_of c r ≡ high)
