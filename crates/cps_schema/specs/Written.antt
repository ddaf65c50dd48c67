-- What is written on tokens: their texts, and the numbers that they are worth.
use Rattle.std.specs.Prelude.{ℕ, ◌+◌, Bool, if◌then◌else◌, List, [], drop, Option, Some, None, slice_get, ℤ, pos, neg_ℤ, codes, map}
use Rattle.std.specs.Option.{option_map, option_map_or, unwrap_or}
use Rattle.std.specs.Str.{bytes_eq}
use Rattle.cps_lex.specs.declared.types.Token.{Token}
use Rattle.cps_lex.specs.declared.types.TokenKind.{TokenKind}
use Rattle.cps_lex.specs.declared.types.TokenKind.TheVariants.{Decimal, Octal, Hexadecimal, Float}
use Rattle.cps_lex.specs.Tokens.{text_of}
use Rattle.cps_schema.specs.declared.closed.TheConstants.{CLOSED}
use Rattle.cps_schema.specs.Digits.{digits_after, decimal_value}
use Rattle.cps_schema.specs.Floats.{float_value}

-- bytes, and tokens that stand on them. Of the fields that a table can close, those with these names are refused.
pub record Written : Type 0 where
  pub bytes : List ℕ
  pub tokens : List Token
  pub closed : List (List ℕ)

-- the text of a token; empty if there is no token of this number
unfoldable pub token_text : Written → ℕ → List ℕ
token_text w k = option_map_or (text_of w.bytes) (slice_get w.tokens k) []

unfoldable pub token_kind : Written → ℕ → Option TokenKind
token_kind w k = option_map (λ t. t.kind) (slice_get w.tokens k)

-- the whole number that a token of this kind writes, if it writes one. A hexadecimal's digits stand behind `0x`.
abbrev pub token_size : Option TokenKind → List ℕ → Option ℕ
token_size (Some Decimal) text = Some (decimal_value text)
token_size (Some Octal) text = Some (digits_after 8 0 text)
token_size (Some Hexadecimal) text = Some (digits_after 16 0 (drop 2 text))
token_size (Some Float) text = float_value text
token_size other text = None

-- a scalar that begins at this token has a `-`
unfoldable pub is_negative : Written → ℕ → Bool
is_negative w first = bytes_eq (token_text w first) (codes "-")

-- the token of its number or word, behind the `-` where it has one
abbrev pub unsigned_token : Written → ℕ → ℕ
unsigned_token w first = if is_negative w first then first + 1 else first

-- the size of the whole number that the scalar is worth, without its sign, if it is worth one
unfoldable pub size_at : Written → ℕ → Option ℕ
size_at w first = token_size (token_kind w (unsigned_token w first)) (token_text w (unsigned_token w first))

-- the number of a size, below 0 or from 0 on
abbrev pub signed_value : Bool → ℕ → ℤ
signed_value negative size = if negative then neg_ℤ (pos size) else pos size

-- the whole number that the scalar is worth, and 0 where it is worth none
unfoldable pub number_at : Written → ℕ → ℤ
number_at w first = signed_value (is_negative w first) (unwrap_or (size_at w first) 0)

-- the document of bytes and their tokens, with this table and with the program's
abbrev pub written_with : List (List ℕ) → List ℕ → List Token → Written
written_with closed bytes tokens = record { bytes = bytes; tokens = tokens; closed = closed }

abbrev pub written : List ℕ → List Token → Written
written bytes tokens = written_with (map (λ name. name.now) CLOSED) bytes tokens
