-- Messages as they are printed, and how each is laid out in lines.
use Rattle.std.specs.Prelude.{ℕ, zero, suc, ℤ, List, [], ◌∷◌, ◌++◌, codes}
use Rattle.std.specs.List.{flat_map}
use Rattle.std.specs.Fmt.{signed_decimal}
use Rattle.cps_print.specs.Quoting.{in_quotes}

-- the fields of a message in the order in which they are printed, each with its name
pub data PrintedMessage : Type 0 where
  empty : PrintedMessage
  -- a number
  number : List ℕ → ℤ → PrintedMessage → PrintedMessage
  -- numbers, of which there is at least one
  numbers : List ℕ → ℤ → List ℤ → PrintedMessage → PrintedMessage
  -- a word, as the name of a member of an enum
  word : List ℕ → List ℕ → PrintedMessage → PrintedMessage
  -- a text, which stands in quotes
  quoted : List ℕ → List ℕ → PrintedMessage → PrintedMessage
  -- a message with its own fields
  message : List ℕ → PrintedMessage → PrintedMessage → PrintedMessage

-- the blanks in front of a line: two for each level
abbrev pub indent : ℕ → List ℕ
indent zero = []
indent (suc level) = 32 ∷ 32 ∷ indent level

-- a field's name with the blanks in front of it
unfoldable pub start_of : ℕ → List ℕ → List ℕ
start_of level name = indent level ++ name

-- a field's name with what is written of its value
unfoldable pub value_line : ℕ → List ℕ → List ℕ → List ℕ
value_line level name value = start_of level name ++ (codes ": " ++ (value ++ codes "\n"))

-- the items of a list, each behind a comma but the first
abbrev pub behind_comma : {X : Type 0} → (X → List ℕ) → X → List ℕ
behind_comma shown value = codes ", " ++ shown value

abbrev pub in_brackets : {X : Type 0} → (X → List ℕ) → X → List X → List ℕ
in_brackets shown first others =
    codes "[" ++ (shown first ++ (flat_map (behind_comma shown) others ++ codes "]"))

-- the line of a list, none where it is empty
abbrev pub list_lines : {X : Type 0} → (X → List ℕ) → ℕ → List ℕ → List X → List ℕ
list_lines shown level name [] = []
list_lines shown level name (first ∷ others) = value_line level name (in_brackets shown first others)

-- the line on which a message begins, and that on which it ends
unfoldable pub opening : ℕ → List ℕ → List ℕ
opening level name = start_of level name ++ codes " {\n"

unfoldable pub closing : ℕ → List ℕ
closing level = indent level ++ codes "}\n"

-- the lines of a message's fields
unfoldable pub text_of : ℕ → PrintedMessage → List ℕ
text_of level empty = []
text_of level (number name n more) = value_line level name (signed_decimal n) ++ text_of level more
text_of level (numbers name n ns more) = value_line level name (in_brackets signed_decimal n ns) ++ text_of level more
text_of level (word name w more) = value_line level name w ++ text_of level more
text_of level (quoted name bytes more) = value_line level name (in_quotes bytes) ++ text_of level more
text_of level (message name fields more) =
    opening level name ++ (text_of (suc level) fields ++ (closing level ++ text_of level more))
