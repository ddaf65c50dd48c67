-- The numbers that digits write.
use Rattle.std.specs.Prelude.{ℕ, ◌+◌, ◌-◌, ◌*◌, ◌^◌, min, nat_le, if◌then◌else◌, List, [], ◌∷◌}

-- what a digit is worth; letters are the digits from 10 on
unfoldable pub digit_value : ℕ → ℕ
digit_value c = if nat_le 97 c then c - 87 else (if nat_le 65 c then c - 55 else c - 48)

-- the number that the digits write in a base when they follow those of n
abbrev pub digits_after : ℕ → ℕ → List ℕ → ℕ
digits_after base n [] = n
digits_after base n (c ∷ cs) = digits_after base (n * base + digit_value c) cs

-- the number that a decimal writes
unfoldable pub decimal_value : List ℕ → ℕ
decimal_value text = digits_after 10 0 text

-- as far as 64 bits go
abbrev pub capped : ℕ → ℕ
capped n = min n (2 ^ 64 - 1)
