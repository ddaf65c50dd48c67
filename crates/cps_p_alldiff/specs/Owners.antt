-- Whose number a number is.
use Rattle.std.specs.Prelude.{ℕ, ℤ, ◌-ℤ◌, unsigned_abs, List, slice_index_or}

-- by a list of owners from a first number on; 0 where it has none
abbrev pub owner_of : List ℕ → ℤ → ℤ → ℕ
owner_of owners base value = slice_index_or owners (unsigned_abs (value -ℤ base)) 0
