-- Lists of whole numbers that rise.
use Rattle.std.specs.Prelude.{ℕ, ◌<◌, ℤ, pos, ◌<ℤ◌, List, length, slice_index_or}

-- each number is greater than those before it
abbrev pub IsRising : List ℤ → Type 0
IsRising ns = (i j : ℕ) → i < j → j < length ns → slice_index_or ns i (pos 0) <ℤ slice_index_or ns j (pos 0)
