-- The texts that scalars write.
use Rattle.std.specs.Prelude.{ℕ, ◌-◌, Bool, true, false, ◌&&◌, if◌then◌else◌, List, take, drop, Option, Some, None}
use Rattle.std.specs.List.{list_all, flat_map}
use Rattle.std.specs.Str.{is_utf8}
use Rattle.cps_lex.specs.declared.types.Token.{Token}
use Rattle.cps_lex.specs.declared.types.TokenKind.{TokenKind}
use Rattle.cps_lex.specs.declared.types.TokenKind.TheVariants.{Text}
use Rattle.cps_lex.specs.Tokens.{text_of}
use Rattle.cps_lex.specs.Texts.{text_value}
use Rattle.cps_schema.specs.Written.{Written}

-- the tokens of a scalar, by its first and the one behind its last
abbrev pub scalar_tokens : Written → ℕ → ℕ → List Token
scalar_tokens w first end = take (end - first) (drop first w.tokens)

abbrev pub is_string_kind : TokenKind → Bool
is_string_kind Text = true
is_string_kind other = false

abbrev pub is_string : Token → Bool
is_string t = is_string_kind t.kind

-- the bytes of a string
abbrev pub string_value : List ℕ → Token → List ℕ
string_value bytes t = text_value (text_of bytes t)

-- those of a scalar's strings, joined
abbrev pub joined : Written → ℕ → ℕ → List ℕ
joined w first end = flat_map (string_value w.bytes) (scalar_tokens w first end)

-- the text that a scalar writes: all its tokens are strings, and their bytes together are UTF-8
unfoldable pub text_at : Written → ℕ → ℕ → Option (List ℕ)
text_at w first end =
    if list_all is_string (scalar_tokens w first end) && is_utf8 (joined w first end) then Some
    (joined w first end) else None
