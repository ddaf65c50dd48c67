-- What rest asks of elements and tables: what is open is open at some place, or by some row.
use Rattle.std.specs.Prelude.{◌≡◌, ◌≢◌, ◌⊎◌, ℕ, ◌+◌, ◌*◌, ◌≤◌, ◌<◌, ℤ, pos, ◌≤ℤ◌, List, length, slice_index_or}
use Rattle.cps_model.specs.Lookups.{row_at}
use Rattle.cps_trail.specs.Trail.{Trail}
use Rattle.cps_propagate.specs.Now.{IsOpenTo, IsEndNow, IsFixedNow}

-- Two subjects may have one value, as far as their ends tell: neither lies above the other, and where one of them has
-- a single value left, the other may have it.
pub record MayBeSame (s : Trail) (i j : ℕ) : Type 0 where
  pub up : (x : ℤ) × (y : ℤ) × IsOpenTo s i x × IsOpenTo s j y × (x ≤ℤ y)
  pub down : (x : ℤ) × (y : ℤ) × IsOpenTo s i x × IsOpenTo s j y × (y ≤ℤ x)
  pub single : IsFixedNow s i ⊎ IsFixedNow s j → (x : ℤ) × IsOpenTo s i x × IsOpenTo s j x

-- the index may have a place now at which the expression and the target may have one value
pub record IsOpenPlace (s : Trail) (index target : ℕ) (exprs : List ℕ) (k : ℕ) : Type 0 where
  pub within : k < length exprs
  pub place : IsOpenTo s index (pos k)
  pub same : MayBeSame s (slice_index_or exprs k 0) target

abbrev pub MayBeElement : Trail → ℕ → ℕ → List ℕ → Type 0
MayBeElement s index target exprs = (k : ℕ) × IsOpenPlace s index target exprs k

-- at an open place the expression may have a value
pub record IsValueAtPlace (s : Trail) (index target : ℕ) (exprs : List ℕ) (v : ℤ) : Type 0 where
  pub k : ℕ
  pub place : IsOpenPlace s index target exprs k
  pub value : IsOpenTo s (slice_index_or exprs k 0) v

-- the index has this place left and no other, and the expression there may have a value
pub record IsLastValue (s : Trail) (index : ℕ) (exprs : List ℕ) (k : ℕ) (v : ℤ) : Type 0 where
  pub within : k < length exprs
  pub alone : (x : ℤ) → IsOpenTo s index x → x ≡ pos k
  pub value : IsOpenTo s (slice_index_or exprs k 0) v

-- Bounds of an index, a target and expressions leave nothing to narrow.
pub record IsStrongElement (s : Trail) (index target : ℕ) (exprs : List ℕ) : Type 0 where
  -- each value of the index is an open place
  pub places : (x : ℤ) → IsOpenTo s index x → (k : ℕ) × (x ≡ pos k) × IsOpenPlace s index target exprs k
  -- the target lies between the values at open places
  pub low : (x : ℤ) → IsOpenTo s target x → (v : ℤ) × IsValueAtPlace s index target exprs v × (v ≤ℤ x)
  pub high : (x : ℤ) → IsOpenTo s target x → (v : ℤ) × IsValueAtPlace s index target exprs v × (x ≤ℤ v)
  -- where one place is left, the expression there lies between the target's values
  pub last_low : (k : ℕ) (v : ℤ) → IsLastValue s index exprs k v → (x : ℤ) × IsOpenTo s target x × (x ≤ℤ v)
  pub last_high : (k : ℕ) (v : ℤ) → IsLastValue s index exprs k v → (x : ℤ) × IsOpenTo s target x × (v ≤ℤ x)

-- the value of a row at a column
abbrev pub cell : List ℕ → List ℤ → ℕ → ℕ → ℤ
cell exprs values row k = slice_index_or (row_at (length exprs) values row) k (pos 0)

-- a row of a table that each of its columns may have now
pub record IsOpenRowAt (s : Trail) (exprs : List ℕ) (values : List ℤ) (row : ℕ) : Type 0 where
  pub within : (row + 1) * length exprs ≤ length values
  pub possible : (k : ℕ) → k < length exprs → IsOpenTo s (slice_index_or exprs k 0) (cell exprs values row k)

-- There is such a row, and in such rows stand the least and the greatest value of each column.
pub record HasOpenRows (s : Trail) (exprs : List ℕ) (values : List ℤ) : Type 0 where
  pub some : (row : ℕ) × IsOpenRowAt s exprs values row
  pub ends : (k : ℕ) (v : ℤ) → k < length exprs → IsEndNow s (slice_index_or exprs k 0) v
      → (row : ℕ) × IsOpenRowAt s exprs values row × (cell exprs values row k ≡ v)

-- a column has a row's value and no other
abbrev pub IsSureAt : Trail → List ℕ → List ℤ → ℕ → ℕ → Type 0
IsSureAt s exprs values row k =
    (x : ℤ) → IsOpenTo s (slice_index_or exprs k 0) x → x ≡ cell exprs values row k

-- where all columns but one surely have a row's values, the row's value is not open to that one
abbrev pub IsRowMissed : Trail → List ℕ → List ℤ → ℕ → Type 0
IsRowMissed s exprs values row = (c : ℕ) → c < length exprs
    → ((k : ℕ) → k < length exprs → k ≢ c → IsSureAt s exprs values row k)
    → IsOpenTo s (slice_index_or exprs c 0) (cell exprs values row c) → ⊥

-- so each row of a negated table is missed
pub record MissesRows (s : Trail) (exprs : List ℕ) (values : List ℤ) : Type 0 where
  pub missed : (row : ℕ) → (row + 1) * length exprs ≤ length values → IsRowMissed s exprs values row

-- the columns surely have the values of a row
pub record IsSurelyListed (s : Trail) (exprs : List ℕ) (values : List ℤ) : Type 0 where
  pub some : 0 < length exprs
  pub row : ℕ
  pub within : (row + 1) * length exprs ≤ length values
  pub sure : (k : ℕ) → k < length exprs → IsSureAt s exprs values row k
