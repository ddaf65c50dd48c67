-- Floats: the numbers that they denote, and the whole numbers that moving their point gives.
use Rattle.std.specs.Prelude.{◌≡◌, ℕ, ◌+◌, ◌-◌, ◌*◌, ◌^◌, ◌==◌, ◌||◌, Bool, false, if◌then◌else◌, List, [], ◌∷◌, ◌++◌, length, take, drop, Option, Some, None}
use Rattle.std.specs.List.{list_all, prefix_len}
use Rattle.cps_lex.specs.Bytes.{is_digit}
use Rattle.cps_schema.specs.Digits.{decimal_value}

-- the digits at the front of a text, and what follows them
abbrev pub leading_digits : List ℕ → List ℕ
leading_digits text = take (prefix_len is_digit text) text

abbrev pub past_digits : List ℕ → List ℕ
past_digits text = drop (prefix_len is_digit text) text

-- what follows a point, where one is in front
abbrev pub past_point : List ℕ → List ℕ
past_point [] = []
past_point (b ∷ bs) = if b == 46 then bs else b ∷ bs

-- what follows the mark of an exponent; empty if there is none
abbrev pub past_mark : List ℕ → List ℕ
past_mark [] = []
past_mark (b ∷ bs) = if b == 101 || b == 69 then bs else []

abbrev pub is_minus : List ℕ → Bool
is_minus [] = false
is_minus (b ∷ bs) = b == 45

abbrev pub past_sign : List ℕ → List ℕ
past_sign [] = []
past_sign (b ∷ bs) = if b == 45 || b == 43 then bs else b ∷ bs

-- the parts of a float: its digits before the point, those behind it, and its exponent with its sign
unfoldable pub whole_digits : List ℕ → List ℕ
whole_digits text = leading_digits text

unfoldable pub fraction_digits : List ℕ → List ℕ
fraction_digits text = leading_digits (past_point (past_digits text))

unfoldable pub exponent_text : List ℕ → List ℕ
exponent_text text = past_mark (past_digits (past_point (past_digits text)))

-- the size of an exponent. It is 0 where there is none.
abbrev pub exponent_size : List ℕ → ℕ
exponent_size exponent = decimal_value (leading_digits (past_sign exponent))

-- to which power of ten a float is multiplied, and by which it is divided: one of them is 0
abbrev pub raised : List ℕ → ℕ
raised exponent = if is_minus exponent then 0 else exponent_size exponent

abbrev pub lowered : List ℕ → ℕ
lowered exponent = if is_minus exponent then exponent_size exponent else 0

-- The float is the whole number n. Its digits, read as one number, times the power of ten that its exponent and the
-- digits behind its point make are n; both sides are multiplied by the power's denominator, so that they are whole.
abbrev pub Denotes : List ℕ → ℕ → Type 0
Denotes text n =
    decimal_value (whole_digits text ++ fraction_digits text) * 10 ^ raised (exponent_text text)
    ≡ n * 10 ^ (length (fraction_digits text) + lowered (exponent_text text))

-- how many digits stand before the point once the exponent has moved it from behind so many
abbrev pub moved : ℕ → List ℕ → ℕ
moved digits exponent = (digits + raised exponent) - lowered exponent

abbrev pub is_zero : ℕ → Bool
is_zero c = c == 48

-- the whole number that digits write with the point behind so many of them; those behind the point must all be 0
abbrev pub with_point : ℕ → List ℕ → Option ℕ
with_point place digits =
    if list_all is_zero (drop place digits) then Some
    (decimal_value (take place digits) * 10 ^ (place - length digits)) else None

-- the whole number that a float writes, if it writes one
unfoldable pub float_value : List ℕ → Option ℕ
float_value text = with_point (moved (length (whole_digits text)) (exponent_text text))
    (whole_digits text ++ fraction_digits text)
