-- Intervals of whole numbers.
use Rattle.std.specs.Prelude.{ℤ, ◌≤ℤ◌}

-- no number lies from `least` to `greatest` and from `low` to `high`
abbrev pub AreApart : ℤ → ℤ → ℤ → ℤ → Type 0
AreApart least greatest low high = (x : ℤ) → least ≤ℤ x → x ≤ℤ greatest → low ≤ℤ x → x ≤ℤ high → ⊥
