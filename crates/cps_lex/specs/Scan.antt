-- The token at the front, by its first byte.
use Rattle.std.specs.Prelude.{ℕ, Bool, true, false, ◌&&◌, not, ◌+◌, if◌then◌else◌, List, [], ◌∷◌, take, Option, Some, None}
use Rattle.std.specs.Option.{option_map}
use Rattle.std.specs.List.{prefix_len}
use Rattle.cps_lex.specs.declared.types.TokenKind.{TokenKind}
use Rattle.cps_lex.specs.declared.types.TokenKind.TheVariants.{Identifier, Text, Sign}
use Rattle.cps_lex.specs.declared.escapes.Place.{Place}
use Rattle.cps_lex.specs.declared.escapes.Place.TheVariants.{Inside}
use Rattle.cps_lex.specs.declared.escapes.Denoted.{Denoted}
use Rattle.cps_lex.specs.Bytes.{is_word_start, is_word, is_x, is_sign, is_quote, is_exponent_mark, is_number_start, belongs_to_number}
use Rattle.cps_lex.specs.Forms.{number_kind}
use Rattle.cps_lex.specs.Escapes.{step, is_closed}

-- how many bytes may belong to a number; signs: a sign may stand behind `e`; marked: such an `e` stands before them
abbrev pub number_run : Bool → Bool → List ℕ → ℕ
number_run signs marked [] = 0
number_run signs marked (b ∷ bs) =
    if belongs_to_number marked b then 1 + number_run signs (signs && is_exponent_mark b) bs else 0

-- no `x` is next: the number is no hexadecimal, where `e` is a digit and no sign follows it
abbrev pub has_signs : List ℕ → Bool
has_signs [] = true
has_signs (b ∷ bs) = not (is_x b)

abbrev pub run_of : List ℕ → ℕ
run_of after = number_run (has_signs after) false after

-- the kind and length of the number that begins with first: the whole run
unfoldable pub number_at : ℕ → List ℕ → Option (TokenKind × ℕ)
number_at first after = option_map (λ kind. (kind, 1 + run_of after)) (number_kind (first ∷ take (run_of after) after))

abbrev pub closing_by : Option (Place × Denoted) → ℕ → (Place → Option ℕ) → Option ℕ
closing_by None count more = None
closing_by (Some s) count more = if is_closed s.0 then Some count else more s.0

-- how many bytes there are up to the closing quote, with it and with so many before these, behind this place
abbrev pub closing : ℕ → Place → ℕ → List ℕ → Option ℕ
closing quote place count [] = None
closing quote place count (b ∷ bs) = closing_by (step quote place b) (count + 1)
    (λ next. closing quote next (count + 1) bs)

-- the string that begins with this quote
unfoldable pub text_at : ℕ → List ℕ → Option (TokenKind × ℕ)
text_at quote after = option_map (λ n. (Text, 1 + n)) (closing quote Inside 0 after)

unfoldable pub scan : List ℕ → Option (TokenKind × ℕ)
scan [] = None
scan (b ∷ bs) =
    if is_word_start b then Some (Identifier, 1 + prefix_len is_word bs)
    else (if is_number_start b then number_at b bs
    else (if is_sign b then Some (Sign, 1)
    else (if is_quote b then text_at b bs
    else None)))
