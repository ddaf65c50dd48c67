-- Truth values, by their words and numbers.
use Rattle.std.specs.Prelude.{ℕ, ◌==◌, Bool, true, false, ◌||◌, if◌then◌else◌, List, Option, Some, None, codes}
use Rattle.std.specs.Str.{bytes_eq}
use Rattle.cps_lex.specs.declared.types.TokenKind.{TokenKind}
use Rattle.cps_lex.specs.declared.types.TokenKind.TheVariants.{Identifier, Decimal, Octal, Hexadecimal}
use Rattle.cps_schema.specs.Written.{Written, token_kind, token_text, token_size}

-- the truth value that a word names, if it names one
abbrev pub truth_named : List ℕ → Option Bool
truth_named name =
    if bytes_eq name (codes "true") || bytes_eq name (codes "True") || bytes_eq name (codes "t") then Some true
    else (if bytes_eq name (codes "false") || bytes_eq name (codes "False") || bytes_eq name (codes "f") then Some false
    else None)

-- 1 is true and 0 is false; None: a number that is too great to be kept
abbrev pub truth_numbered : Option ℕ → Option Bool
truth_numbered None = None
truth_numbered (Some n) = if n == 1 then Some true else (if n == 0 then Some false else None)

-- the truth value that a token of this kind gives, if it gives one
abbrev pub truth_of : Option TokenKind → List ℕ → Option Bool
truth_of (Some Identifier) text = truth_named text
truth_of (Some Decimal) text = truth_numbered (token_size (Some Decimal) text)
truth_of (Some Octal) text = truth_numbered (token_size (Some Octal) text)
truth_of (Some Hexadecimal) text = truth_numbered (token_size (Some Hexadecimal) text)
truth_of other text = None

-- the same of the scalar that begins at this token. One behind `-` gives none.
unfoldable pub truth_at : Written → ℕ → Option Bool
truth_at w first = truth_of (token_kind w first) (token_text w first)
