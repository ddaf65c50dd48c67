-- How a float is written, byte by byte.
use Rattle.std.specs.Prelude.{ℕ, Bool, true, false, ◌==◌, if◌then◌else◌, List, [], ◌∷◌, Option, Some, None}
use Rattle.std.specs.Option.{option_map_or}
use Rattle.cps_lex.specs.declared.float.Part.{Part}
use Rattle.cps_lex.specs.declared.float.Part.TheVariants.{Zero, Whole, Point, Fraction, Mark, Signed, Exponent, Suffix}
use Rattle.cps_lex.specs.Bytes.{is_digit, is_exponent_mark, is_plus_or_minus, is_float_suffix}

-- the part that a byte belongs to, behind this part
abbrev pub next_part : Part → ℕ → Option Part
next_part Zero b =
    if b == 46 then Some Fraction else
    (if is_exponent_mark b then Some Mark else (if is_float_suffix b then Some Suffix else None))
next_part Whole b =
    if is_digit b then Some Whole
    else (if b == 46 then Some Fraction else
    (if is_exponent_mark b then Some Mark else (if is_float_suffix b then Some Suffix else None)))
next_part Point b = if is_digit b then Some Fraction else None
next_part Fraction b =
    if is_digit b then Some Fraction else
    (if is_exponent_mark b then Some Mark else (if is_float_suffix b then Some Suffix else None))
next_part Mark b = if is_plus_or_minus b then Some Signed else (if is_digit b then Some Exponent else None)
next_part Signed b = if is_digit b then Some Exponent else None
next_part Exponent b = if is_digit b then Some Exponent else (if is_float_suffix b then Some Suffix else None)
next_part Suffix b = None

-- the last byte of a float belongs to the digits behind a point, to the point, to the exponent's digits, or is `f`
abbrev pub may_be_last : Part → Bool
may_be_last Fraction = true
may_be_last Exponent = true
may_be_last Suffix = true
may_be_last _ = false

-- these bytes are the rest of a float, behind this part
abbrev pub float_from : Part → List ℕ → Bool
float_from part [] = may_be_last part
float_from part (b ∷ bs) = option_map_or (λ next. float_from next bs) (next_part part b) false

-- the part of the first byte, a digit or a point
abbrev pub start_of : ℕ → Part
start_of b = if b == 46 then Point else (if b == 48 then Zero else Whole)
