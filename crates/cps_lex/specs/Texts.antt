-- The text of a string behind its opening quote, and which bytes it denotes.
use Rattle.std.specs.Prelude.{ℕ, Bool, false, List, [], ◌∷◌, ◌++◌}
use Rattle.std.specs.Option.{option_map_or}
use Rattle.std.specs.Char.{encode_utf8}
use Rattle.cps_lex.specs.declared.escapes.Place.{Place}
use Rattle.cps_lex.specs.declared.escapes.Place.TheVariants.{Inside}
use Rattle.cps_lex.specs.declared.escapes.Denoted.{Denoted}
use Rattle.cps_lex.specs.declared.escapes.Denoted.TheVariants.{Nothing, One, Two, Character}
use Rattle.cps_lex.specs.Escapes.{step, is_closed}

-- these bytes are the rest of a string, behind this place: they end with the quote that closes it
abbrev pub closes : ℕ → Place → List ℕ → Bool
closes quote place [] = is_closed place
closes quote place (b ∷ bs) = option_map_or (λ s. closes quote s.0 bs) (step quote place b) false

abbrev pub bytes_of : Denoted → List ℕ
bytes_of Nothing = []
bytes_of (One b) = b ∷ []
bytes_of (Two a b) = a ∷ b ∷ []
bytes_of (Character c) = encode_utf8 c

-- what these bytes denote behind this place. Where no string goes on, and behind the closing quote, nothing.
abbrev pub text_from : ℕ → Place → List ℕ → List ℕ
text_from quote place [] = []
text_from quote place (b ∷ bs) = option_map_or (λ s. bytes_of s.1 ++ text_from quote s.0 bs) (step quote place b) []

-- the bytes that a string denotes
abbrev pub text_value : List ℕ → List ℕ
text_value [] = []
text_value (quote ∷ bs) = text_from quote Inside bs
