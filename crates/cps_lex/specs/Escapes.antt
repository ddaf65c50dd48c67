-- How a string is written and what it denotes, byte by byte.
use Rattle.std.specs.Prelude.{ℕ, ◌+◌, ◌-◌, ◌*◌, Bool, true, false, ◌==◌, ◌||◌, ◌&&◌, nat_le, nat_lt, if◌then◌else◌, Option, Some, None, option_and_then}
use Rattle.std.specs.Option.{option_map}
use Rattle.cps_lex.specs.declared.escapes.Place.{Place}
use Rattle.cps_lex.specs.declared.escapes.Place.TheVariants.{Inside, Backslash, OctalOne, OctalTwo, HexMark, HexOne, Unicode, Closed}
use Rattle.cps_lex.specs.declared.escapes.Denoted.{Denoted}
use Rattle.cps_lex.specs.declared.escapes.Denoted.TheVariants.{Nothing, One, Two, Character}
use Rattle.cps_lex.specs.Bytes.{is_octal_digit, is_hex_digit, hex_value, is_x}

-- what a backslash and this byte denote: `\a \b \f \n \r \t \v` as in C, and `\? \\ \' \"` the byte itself
unfoldable pub simple_escape : ℕ → Option ℕ
simple_escape b =
    if b == 97 then Some 7
    else (if b == 98 then Some 8
    else (if b == 102 then Some 12
    else (if b == 110 then Some 10
    else (if b == 114 then Some 13
    else (if b == 116 then Some 9
    else (if b == 118 then Some 11
    else (if (b == 63 || b == 92) || (b == 39 || b == 34) then Some b
    else None)))))))

-- the value of octal digits with one more. A value above 255 is none, so a third digit that takes it there is a fault:
-- it belongs to the escape, since digits are taken greedily.
unfoldable pub octal_with : ℕ → ℕ → Option ℕ
octal_with value b = if nat_le (8 * value + hex_value b) 255 then Some (8 * value + hex_value b) else None

-- the same of hexadecimal digits; two of them are never above 255
unfoldable pub hex_with : ℕ → ℕ → Option ℕ
hex_with value b = if nat_le (16 * value + hex_value b) 255 then Some (16 * value + hex_value b) else None

-- the same of the digits of a character. No digit takes a value back that is above the last character, 10FFFF.
unfoldable pub code_with : ℕ → ℕ → Option ℕ
code_with value b = if nat_le (16 * value + hex_value b) 0x10FFFF then Some (16 * value + hex_value b) else None

-- a Unicode scalar value, which no surrogate is
abbrev pub is_scalar : ℕ → Bool
is_scalar code = nat_lt code 0xD800 || (nat_le 0xE000 code && nat_le code 0x10FFFF)

-- the character of this number
unfoldable pub character_of : ℕ → Option ℕ
character_of code = if is_scalar code then Some code else None

-- A byte of a string leads from one place to the next, and what it completes of the value is told beside that. `None`
-- is where no string goes on.

-- behind a whole piece: the quote closes the string, a backslash begins an escape, and a line feed may not stand there
unfoldable pub behind_piece : ℕ → ℕ → Option (Place × Denoted)
behind_piece quote b =
    if b == quote then Some (Closed, Nothing)
    else (if b == 92 then Some (Backslash, Nothing)
    else (if b == 10 then None
    else Some (Inside, One b)))

-- the same behind the digits of an octal or hexadecimal escape, which has this value: it ends there
unfoldable pub behind_value : ℕ → ℕ → ℕ → Option (Place × Denoted)
behind_value value quote b =
    if b == quote then Some (Closed, One value)
    else (if b == 92 then Some (Backslash, One value)
    else (if b == 10 then None
    else Some (Inside, Two value b)))

-- behind a backslash: a digit or letter that begins digits, or an escape of one byte
unfoldable pub behind_backslash : ℕ → Option (Place × Denoted)
behind_backslash b =
    if is_octal_digit b then Some (OctalOne (hex_value b), Nothing)
    else (if is_x b then Some (HexMark, Nothing)
    else (if b == 117 then Some (Unicode 4 0, Nothing)
    else (if b == 85 then Some (Unicode 8 0, Nothing)
    else option_map (λ value. (Inside, One value)) (simple_escape b))))

-- behind the first of one to three octal digits
unfoldable pub behind_octal_one : ℕ → ℕ → ℕ → Option (Place × Denoted)
behind_octal_one value quote b =
    if is_octal_digit b then option_map (λ both. (OctalTwo both, Nothing)) (octal_with value b)
    else behind_value value quote b

-- behind the second
unfoldable pub behind_octal_two : ℕ → ℕ → ℕ → Option (Place × Denoted)
behind_octal_two value quote b =
    if is_octal_digit b then option_map (λ all. (Inside, One all)) (octal_with value b)
    else behind_value value quote b

-- behind `\x`, where a digit must stand
unfoldable pub behind_hex_mark : ℕ → Option (Place × Denoted)
behind_hex_mark b = if is_hex_digit b then Some (HexOne (hex_value b), Nothing) else None

-- behind the first of one or two hexadecimal digits
unfoldable pub behind_hex_one : ℕ → ℕ → ℕ → Option (Place × Denoted)
behind_hex_one value quote b =
    if is_hex_digit b then option_map (λ both. (Inside, One both)) (hex_with value b)
    else behind_value value quote b

-- with a digit of a character, of which so many were to come
unfoldable pub with_code : ℕ → ℕ → Option (Place × Denoted)
with_code left code =
    if nat_le left 1 then option_map (λ character. (Inside, Character character)) (character_of code)
    else Some (Unicode (left - 1) code, Nothing)

-- behind `\u` or `\U`, where so many digits must stand, and the value of those before
unfoldable pub behind_unicode : ℕ → ℕ → ℕ → Option (Place × Denoted)
behind_unicode left value b = if is_hex_digit b then option_and_then (with_code left) (code_with value b) else None

-- where a byte leads, and what it completes
unfoldable pub step : ℕ → Place → ℕ → Option (Place × Denoted)
step quote Inside b = behind_piece quote b
step quote Backslash b = behind_backslash b
step quote (OctalOne value) b = behind_octal_one value quote b
step quote (OctalTwo value) b = behind_octal_two value quote b
step quote HexMark b = behind_hex_mark b
step quote (HexOne value) b = behind_hex_one value quote b
step quote (Unicode left value) b = behind_unicode left value b
step quote Closed b = None

abbrev pub is_closed : Place → Bool
is_closed Closed = true
is_closed _ = false
