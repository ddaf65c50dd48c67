-- What a byte is.
use Rattle.std.specs.Prelude.{ℕ, ◌-◌, Bool, ◌==◌, ◌||◌, ◌&&◌, nat_le, not, if◌then◌else◌}
use Rattle.std.specs.Char.{is_ascii_alphabetic, is_ascii_alphanumeric, is_ascii_digit, is_ascii_hexdigit}

-- space, tab, line feed, vertical tab, form feed, carriage return
unfoldable pub is_space : ℕ → Bool
is_space b = b == 32 || (nat_le 9 b && nat_le b 13)

-- a letter or `_`
unfoldable pub is_word_start : ℕ → Bool
is_word_start b = is_ascii_alphabetic b || b == 95

-- a letter, a digit or `_`
unfoldable pub is_word : ℕ → Bool
is_word b = is_ascii_alphanumeric b || b == 95

unfoldable pub is_digit : ℕ → Bool
is_digit b = is_ascii_digit b

unfoldable pub is_octal_digit : ℕ → Bool
is_octal_digit b = nat_le 48 b && nat_le b 55

unfoldable pub is_hex_digit : ℕ → Bool
is_hex_digit b = is_ascii_hexdigit b

-- the value of a hexadecimal digit, and so of an octal one; 0 of any other byte
unfoldable pub hex_value : ℕ → ℕ
hex_value b =
    if nat_le 48 b && nat_le b 57 then b - 48
    else (if nat_le 65 b && nat_le b 70 then b - 55
    else (if nat_le 97 b && nat_le b 102 then b - 87
    else 0))

-- what stands before hexadecimal digits
unfoldable pub is_x : ℕ → Bool
is_x b = b == 120 || b == 88

-- `e` or `E`, which begins an exponent
unfoldable pub is_exponent_mark : ℕ → Bool
is_exponent_mark b = b == 101 || b == 69

unfoldable pub is_plus_or_minus : ℕ → Bool
is_plus_or_minus b = b == 43 || b == 45

-- `f` or `F`, which may end a float
unfoldable pub is_float_suffix : ℕ → Bool
is_float_suffix b = b == 102 || b == 70

-- one of `, - : ; < > [ ] { }`
unfoldable pub is_sign : ℕ → Bool
is_sign b =
    b == 44 || b == 45 || b == 58 || b == 59 || b == 60 || b == 62 || b == 91 || b == 93 || b == 123 || b == 125

-- `"` or `'`, which begins a string
unfoldable pub is_quote : ℕ → Bool
is_quote b = b == 34 || b == 39

-- what a number may begin with: a digit or `.`
abbrev pub is_number_start : ℕ → Bool
is_number_start b = is_digit b || b == 46

-- a letter, a digit, `_` or `.`: a number that it follows is none
abbrev pub is_number_part : ℕ → Bool
is_number_part b = is_word b || b == 46

-- what may belong to a number; marked: a sign may stand here, behind the mark of an exponent
abbrev pub belongs_to_number : Bool → ℕ → Bool
belongs_to_number marked b = is_number_part b || (marked && is_plus_or_minus b)

-- the byte belongs to white space or to a comment; inside: a comment is open before it
abbrev pub is_blank : Bool → ℕ → Bool
is_blank inside b = (inside || b == 35) || is_space b

-- a comment is open behind this blank byte: it ends with its line
abbrev pub opens_comment : Bool → ℕ → Bool
opens_comment inside b = if inside then not (b == 10) else b == 35
