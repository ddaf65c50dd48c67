-- Runs one after the other.
use Rattle.std.specs.Prelude.{◌≡◌, ℕ, ◌+◌, ◌<◌, ◌⊎◌, Bool, ◌≤ℤ◌, ◌<ℤ◌, int_le, List, length, slice_index_or}
use Rattle.cps_model.specs.declared.parts.Run.{Run}

-- a run does not end before it starts
abbrev pub is_forward : Run → Bool
is_forward run = int_le run.start run.end

-- it starts before the other, or with it, and then does not end after it
abbrev pub ComesFirst : Run → Run → Type 0
ComesFirst p q = (p.start <ℤ q.start) ⊎ ((p.start ≡ q.start) × (p.end ≤ℤ q.end))

-- they are sorted by start and end
abbrev pub AreInTurn : List Run → Type 0
AreInTurn runs = (k : ℕ) (d : Run) → k + 1 < length runs
    → ComesFirst (slice_index_or runs k d) (slice_index_or runs (k + 1) d)
