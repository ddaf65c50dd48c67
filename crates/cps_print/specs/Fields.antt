-- The fields that a message may have, and what of them is left out.
use Rattle.std.specs.Prelude.{ℕ, ℤ, pos, negsuc, zero, suc, List, [], ◌∷◌}
use Rattle.cps_print.specs.Layout.{PrintedMessage, empty, number, numbers, word, quoted, message}

-- the fields of one message, and then those of another
unfoldable pub followed_by : PrintedMessage → PrintedMessage → PrintedMessage
followed_by empty others = others
followed_by (number name n more) others = number name n (followed_by more others)
followed_by (numbers name n ns more) others = numbers name n ns (followed_by more others)
followed_by (word name w more) others = word name w (followed_by more others)
followed_by (quoted name bytes more) others = quoted name bytes (followed_by more others)
followed_by (message name fields more) others = message name fields (followed_by more others)

-- fields in order
abbrev pub fields_of : List PrintedMessage → PrintedMessage
fields_of [] = empty
fields_of (field ∷ fields) = followed_by field (fields_of fields)

-- a number, left out where it is 0
unfoldable pub number_field : List ℕ → ℤ → PrintedMessage
number_field name (pos zero) = empty
number_field name (pos (suc n)) = number name (pos (suc n)) empty
number_field name (negsuc n) = number name (negsuc n) empty

-- numbers, left out where there are none
unfoldable pub list_field : List ℕ → List ℤ → PrintedMessage
list_field name [] = empty
list_field name (n ∷ ns) = numbers name n ns empty

-- a word, left out where it is empty
unfoldable pub word_field : List ℕ → List ℕ → PrintedMessage
word_field name [] = empty
word_field name (b ∷ bytes) = word name (b ∷ bytes) empty

-- a text, left out where it is empty
unfoldable pub text_field : List ℕ → List ℕ → PrintedMessage
text_field name [] = empty
text_field name (b ∷ bytes) = quoted name (b ∷ bytes) empty

-- a message, which is always written
abbrev pub message_field : List ℕ → PrintedMessage → PrintedMessage
message_field name fields = message name fields empty

-- a message for each item
unfoldable pub repeated_field : {X : Type 0} → List ℕ → (X → PrintedMessage) → List X → PrintedMessage
repeated_field name printed [] = empty
repeated_field name printed (x ∷ xs) = message name (printed x) (repeated_field name printed xs)
