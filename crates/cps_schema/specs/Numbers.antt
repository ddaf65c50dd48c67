-- Which numbers a field takes, and what is wrong with others.
use Rattle.std.specs.Prelude.{ℕ, Bool, true, false, ◌&&◌, if◌then◌else◌, Option, Some, None, is_some, ℤ, pos, negsuc, int_le}
use Rattle.std.specs.Option.{option_or}
use Rattle.cps_lex.specs.declared.types.TokenKind.{TokenKind}
use Rattle.cps_lex.specs.declared.types.TokenKind.TheVariants.{Identifier, Decimal, Octal, Hexadecimal, Float}
use Rattle.cps_model.specs.declared.fault.FaultName.{FaultName}
use Rattle.cps_model.specs.declared.fault.FaultName.TheVariants.{WrongKind, OutOfRange, NotWhole}
use Rattle.cps_schema.specs.declared.number.Number.{Number}
use Rattle.cps_schema.specs.declared.number.Number.TheVariants.{Int64, Int32, Exact}
use Rattle.cps_schema.specs.Written.{Written, token_kind, signed_value, size_at, number_at, unsigned_token}

abbrev pub least : Number → ℤ
least Int64 = negsuc 9223372036854775807
least Int32 = negsuc 2147483647
least Exact = negsuc 9007199254740991

abbrev pub greatest : Number → ℤ
greatest Int64 = pos 9223372036854775807
greatest Int32 = pos 2147483647
greatest Exact = pos 9007199254740992

unfoldable pub fits : Number → ℤ → Bool
fits type z = int_le (least type) z && int_le z (greatest type)

-- the greatest size of a number of the type, below 0 or from 0 on
abbrev pub limit : Number → Bool → ℕ
limit Int64 true = 9223372036854775808
limit Int64 false = 9223372036854775807
limit Int32 true = 2147483648
limit Int32 false = 2147483647
limit Exact _ = 9007199254740992

-- what is wrong with a number that does not fit
abbrev pub misfit : Number → FaultName
misfit Int64 = OutOfRange
misfit Int32 = OutOfRange
misfit Exact = NotWhole

-- what is wrong with a word as a number: an exact number may be written as a word, such as `inf`, but none is whole
abbrev pub word_fault : Number → FaultName
word_fault Int64 = WrongKind
word_fault Int32 = WrongKind
word_fault Exact = NotWhole

-- what is wrong with a number whose digits are octal or hexadecimal: an exact number is none of these
abbrev pub other_base_fault : Number → Option FaultName
other_base_fault Int64 = None
other_base_fault Int32 = None
other_base_fault Exact = Some WrongKind

-- what is wrong with a float: an exact number alone may be one
abbrev pub float_fault : Number → Option FaultName
float_fault Int64 = Some WrongKind
float_fault Int32 = Some WrongKind
float_fault Exact = None

-- what is wrong with a token of this kind, whatever it writes
abbrev pub token_fault : Number → TokenKind → Option FaultName
token_fault type Decimal = None
token_fault type Octal = other_base_fault type
token_fault type Hexadecimal = other_base_fault type
token_fault type Float = float_fault type
token_fault type Identifier = Some (word_fault type)
token_fault type other = Some WrongKind

-- what is wrong with a scalar of this kind of token; fit: it writes a whole number of the type
abbrev pub kind_fault : Number → Bool → Option TokenKind → Option FaultName
kind_fault type fit (Some kind) = option_or (token_fault type kind) (if fit then None else Some (misfit type))
kind_fault type fit None = Some WrongKind

-- the number of this size and sign, where there is a size and the type has the number
abbrev pub fitted : Number → Bool → Option ℕ → Option ℤ
fitted type negative None = None
fitted type negative (Some size) = if fits type (signed_value negative size) then Some
    (signed_value negative size) else None

-- what is wrong with the scalar that begins at this token as a number of this type
unfoldable pub number_fault : Written → Number → ℕ → Option FaultName
number_fault w type first =
    kind_fault type (is_some (size_at w first) && fits type (number_at w first)) (token_kind w (unsigned_token w first))
