-- The members of enums, by their names and numbers.
use Rattle.std.specs.Prelude.{ℕ, ◌+◌, ◌==◌, Bool, true, false, if◌then◌else◌, nat_le, List, [], ◌∷◌, Option, Some, None, Result, Ok, Err, ℤ, pos, negsuc, codes}
use Rattle.std.specs.Str.{bytes_eq}
use Rattle.cps_lex.specs.declared.types.TokenKind.{TokenKind}
use Rattle.cps_lex.specs.declared.types.TokenKind.TheVariants.{Identifier, Decimal, Octal, Hexadecimal}
use Rattle.cps_model.specs.declared.fault.FaultName.{FaultName}
use Rattle.cps_model.specs.declared.fault.FaultName.TheVariants.{Unsupported, WrongKind, OutOfRange}
use Rattle.cps_model.specs.declared.steering.Choose.{Choose}
use Rattle.cps_model.specs.declared.steering.Choose.TheVariants.{First, LowestMin, HighestMax, MinDomainSize, MaxDomainSize}
use Rattle.cps_model.specs.declared.steering.Select.{Select}
use Rattle.cps_model.specs.declared.steering.Select.TheVariants.{MinValue, MaxValue, LowerHalf, UpperHalf, MedianValue}
use Rattle.cps_schema.specs.declared.member.Enum.{Enum}
use Rattle.cps_schema.specs.declared.member.Enum.TheVariants.{VariableSelection, DomainReduction}
use Rattle.cps_schema.specs.declared.number.Number.TheVariants.{Int32}
use Rattle.cps_schema.specs.Written.{Written, token_kind, token_text, token_size, is_negative, unsigned_token}
use Rattle.cps_schema.specs.Numbers.{fitted}

-- the names of an enum's members in the order of their numbers, which begin with 0
abbrev pub member_names : Enum → List (List ℕ)
member_names VariableSelection =
    codes "CHOOSE_FIRST"
    ∷ codes "CHOOSE_LOWEST_MIN"
    ∷ codes "CHOOSE_HIGHEST_MAX"
    ∷ codes "CHOOSE_MIN_DOMAIN_SIZE"
    ∷ codes "CHOOSE_MAX_DOMAIN_SIZE"
    ∷ []
member_names DomainReduction =
    codes "SELECT_MIN_VALUE"
    ∷ codes "SELECT_MAX_VALUE"
    ∷ codes "SELECT_LOWER_HALF"
    ∷ codes "SELECT_UPPER_HALF"
    ∷ codes "SELECT_MEDIAN_VALUE"
    ∷ []

-- the place of a name among names, of which the first has place k
abbrev pub place_from : ℕ → List (List ℕ) → List ℕ → Option ℕ
place_from k [] name = None
place_from k (other ∷ names) name = if bytes_eq name other then Some k else place_from (k + 1) names name

-- the name is that of a member which is known, and not taken
abbrev pub is_known_member : Enum → List ℕ → Bool
is_known_member VariableSelection name = false
is_known_member DomainReduction name = bytes_eq name (codes "SELECT_RANDOM_HALF")

-- what is wrong with a word that names no member
abbrev pub name_refusal : Enum → List ℕ → FaultName
name_refusal enum name = if is_known_member enum name then Unsupported else WrongKind

abbrev pub found_or : FaultName → Option ℕ → Result ℕ FaultName
found_or name None = Err name
found_or name (Some k) = Ok k

-- the number of the member with a name. A word behind `-` names none.
abbrev pub member_named : Enum → Bool → List ℕ → Result ℕ FaultName
member_named enum true name = Err WrongKind
member_named enum false name = found_or (name_refusal enum name) (place_from 0 (member_names enum) name)

-- a number is that of a member where it is one of 0 to 4, in both enums; None: it has more than 32 bits
abbrev pub member_numbered : Option ℤ → Result ℕ FaultName
member_numbered None = Err OutOfRange
member_numbered (Some (pos n)) = if nat_le n 4 then Ok n else Err OutOfRange
member_numbered (Some (negsuc n)) = Err OutOfRange

-- the number of the member that a token of this kind gives behind a sign, or what is wrong with it
abbrev pub member_of : Enum → Bool → Option TokenKind → List ℕ → Result ℕ FaultName
member_of enum negative (Some Identifier) text = member_named enum negative text
member_of enum negative (Some Decimal) text = member_numbered (fitted Int32 negative (token_size (Some Decimal) text))
member_of enum negative (Some Octal) text = member_numbered (fitted Int32 negative (token_size (Some Octal) text))
member_of enum negative (Some Hexadecimal) text = member_numbered
    (fitted Int32 negative (token_size (Some Hexadecimal) text))
member_of enum negative other text = Err WrongKind

-- the same of the scalar that begins at this token
unfoldable pub member_at : Written → Enum → ℕ → Result ℕ FaultName
member_at w enum first =
    member_of enum (is_negative w first) (token_kind w (unsigned_token w first)) (token_text w (unsigned_token w first))

-- the members by their numbers
abbrev pub choose_of : ℕ → Choose
choose_of n =
    if n == 0 then First
    else (if n == 1 then LowestMin
    else (if n == 2 then HighestMax
    else (if n == 3 then MinDomainSize
    else MaxDomainSize)))

abbrev pub select_of : ℕ → Select
select_of n =
    if n == 0 then MinValue
    else (if n == 1 then MaxValue
    else (if n == 2 then LowerHalf
    else (if n == 3 then UpperHalf
    else MedianValue)))
