-- How each kind of token is written.
use Rattle.std.specs.Prelude.{ℕ, Bool, true, false, ◌==◌, ◌&&◌, not, if◌then◌else◌, List, [], ◌∷◌, Option, Some, None}
use Rattle.std.specs.List.{list_all}
use Rattle.cps_lex.specs.declared.types.TokenKind.{TokenKind}
use Rattle.cps_lex.specs.declared.types.TokenKind.TheVariants.{Identifier, Decimal, Octal, Hexadecimal, Float, Text, Sign}
use Rattle.cps_lex.specs.declared.escapes.Place.TheVariants.{Inside}
use Rattle.cps_lex.specs.Bytes.{is_word_start, is_word, is_digit, is_octal_digit, is_hex_digit, is_x, is_sign, is_quote, is_number_start, is_number_part}
use Rattle.cps_lex.specs.Floats.{float_from, start_of}
use Rattle.cps_lex.specs.Texts.{closes}

abbrev pub is_nothing : List ℕ → Bool
is_nothing [] = true
is_nothing (b ∷ bs) = false

-- one or more bytes, and each passes
abbrev pub some_pass : (ℕ → Bool) → List ℕ → Bool
some_pass p [] = false
some_pass p (b ∷ bs) = list_all p (b ∷ bs)

-- a letter or `_`, then letters, digits, `_`
abbrev pub is_identifier : List ℕ → Bool
is_identifier [] = false
is_identifier (b ∷ bs) = is_word_start b && list_all is_word bs

-- `0`, or a digit from 1 to 9 and further digits
abbrev pub is_decimal : List ℕ → Bool
is_decimal [] = false
is_decimal (b ∷ bs) = is_digit b && (if b == 48 then is_nothing bs else list_all is_digit bs)

-- `0` and one or more digits from 0 to 7
abbrev pub is_octal : List ℕ → Bool
is_octal [] = false
is_octal (b ∷ bs) = b == 48 && some_pass is_octal_digit bs

-- `0x` or `0X` and one or more hexadecimal digits
abbrev pub is_hexadecimal : List ℕ → Bool
is_hexadecimal (b ∷ x ∷ bs) = b == 48 && (is_x x && some_pass is_hex_digit bs)
is_hexadecimal _ = false

-- a decimal, `.` and digits, perhaps none; or `.` and digits; each perhaps with an exponent; or a decimal and an
-- exponent; each perhaps with `f` behind it; or a decimal and `f`
abbrev pub is_float : List ℕ → Bool
is_float [] = false
is_float (b ∷ bs) = is_number_start b && float_from (start_of b) bs

-- the kind of number that the whole text is
abbrev pub number_kind : List ℕ → Option TokenKind
number_kind text =
    if is_decimal text then Some Decimal
    else (if is_octal text then Some Octal
    else (if is_hexadecimal text then Some Hexadecimal
    else (if is_float text then Some Float
    else None)))

abbrev pub is_one_sign : List ℕ → Bool
is_one_sign [] = false
is_one_sign (b ∷ bs) = is_sign b && is_nothing bs

-- a string: a quote, then bytes and escapes up to the same quote
abbrev pub is_text : List ℕ → Bool
is_text [] = false
is_text (b ∷ bs) = is_quote b && closes b Inside bs

-- the kind of token that the whole text is. No text is of two kinds.
abbrev pub kind_of : List ℕ → Option TokenKind
kind_of text =
    if is_identifier text then Some Identifier
    else (if is_one_sign text then Some Sign
    else (if is_text text then Some Text
    else number_kind text))

-- a letter, a digit, `_` or `.` is next
abbrev pub goes_on : List ℕ → Bool
goes_on [] = false
goes_on (b ∷ bs) = is_number_part b

-- a number ends only where none of these is next
abbrev pub may_end : TokenKind → List ℕ → Bool
may_end Identifier after = true
may_end Decimal after = not (goes_on after)
may_end Octal after = not (goes_on after)
may_end Hexadecimal after = not (goes_on after)
may_end Float after = not (goes_on after)
may_end Text after = true
may_end Sign after = true
