-- Laws of the layout.
use Rattle.std.specs.List.{flat_map}
use Rattle.std.specs.Fmt.{signed_decimal}
use Rattle.std.proofs.Common.{◌≡◌, ◌≢◌, ℕ, zero, suc, true, false, ◌+◌, ℤ, pos, negsuc, List, [], ◌∷◌, ◌++◌, refl, sym, ap, ◌∙◌, add-one, append_assoc, append-nil, codes, length, arith, Result, Ok, Err, OnOk}
use Rattle.cps_print.specs.Quoting.{in_quotes}
use Rattle.cps_print.specs.Layout.{PrintedMessage, empty, number, numbers, word, quoted, message, indent, value_line, in_brackets, list_lines, opening, closing, text_of}
use Rattle.cps_print.specs.Fields.{followed_by, number_field, list_field, word_field, text_field, message_field, repeated_field}
use Rattle.cps_model.specs.declared.model.LinearExpr.{LinearExpr}
use Rattle.cps_print.specs.Expressions.{printed_expression, is_empty_expression, expression_field}
use Rattle.cps_print.specs.Models.{scaling_field}

-- what holds behind a call that went well
pub on_ok : {X E : Type 0} {P Q : Type 0} (r : Result X E) → (P → Q) → OnOk r P → OnOk r Q
on_ok (Ok x) f h = f h
on_ok (Err e) f h = tt

-- two more blanks behind those of a level are those of the next
indent-suc : (level : ℕ) → indent (suc level) ≡ indent level ++ 32 ∷ 32 ∷ []
indent-suc zero = refl
indent-suc (suc level) = ap (λ xs. 32 ∷ 32 ∷ xs) (indent-suc level)

pub indent-add_one : (level : ℕ) → indent (level + 1) ≡ indent level ++ 32 ∷ 32 ∷ []
indent-add_one level = rw add-one (indent-suc level)

pub ruleset indents = (indent-add_one)

-- what is written of a field that is left out, and of one that isn't

pub text_of-no_number : (level : ℕ) (name : List ℕ) (z : ℤ) → z ≡ pos 0 → text_of level (number_field name z) ≡ []
unfolding text_of number_field
text_of-no_number level name (pos zero) h = refl
text_of-no_number level name (pos (suc n)) h = cc
text_of-no_number level name (negsuc n) h = cc

pub text_of-number_field : (level : ℕ) (name : List ℕ) (z : ℤ) → z ≢ pos 0 → text_of level (number_field name z) ≡ value_line level name (signed_decimal z)
unfolding text_of number_field
text_of-number_field level name (pos zero) h = absurd (h refl)
text_of-number_field level name (pos (suc n)) h = append-nil (value_line level name (signed_decimal (pos (suc n))))
text_of-number_field level name (negsuc n) h = append-nil (value_line level name (signed_decimal (negsuc n)))

pub ruleset number_lines = (text_of-no_number, text_of-number_field, append-nil)

pub text_of-no_word : (level : ℕ) (name bytes : List ℕ) → length bytes ≡ 0 → text_of level (word_field name bytes) ≡ []
unfolding text_of word_field
text_of-no_word level name [] h = refl
text_of-no_word level name (b ∷ bytes) h = absurd (omega arith)

pub text_of-word_field : (level : ℕ) (name bytes : List ℕ) → bytes ≢ [] → text_of level (word_field name bytes) ≡ value_line level name bytes
unfolding text_of word_field
text_of-word_field level name [] h = absurd (h refl)
text_of-word_field level name (b ∷ bytes) h = append-nil (value_line level name (b ∷ bytes))

pub ruleset word_lines = (text_of-no_word, text_of-word_field, append-nil)

pub text_of-no_text : (level : ℕ) (name bytes : List ℕ) → length bytes ≡ 0 → text_of level (text_field name bytes) ≡ []
unfolding text_of text_field
text_of-no_text level name [] h = refl
text_of-no_text level name (b ∷ bytes) h = absurd (omega arith)

pub text_of-text_field : (level : ℕ) (name bytes : List ℕ) → bytes ≢ [] → text_of level (text_field name bytes) ≡ value_line level name (in_quotes bytes)
unfolding text_of text_field
text_of-text_field level name [] h = absurd (h refl)
text_of-text_field level name (b ∷ bytes) h = append-nil (value_line level name (in_quotes (b ∷ bytes)))

pub ruleset text_lines = (text_of-no_text, text_of-text_field, append-nil)

-- a scaling factor of 1 is left out, and else it is a number like others
pub text_of-no_scaling : (level : ℕ) (z : ℤ) → z ≡ pos 1 → text_of level (scaling_field z) ≡ []
unfolding text_of scaling_field
text_of-no_scaling level (pos zero) h = refl
text_of-no_scaling level (pos (suc zero)) h = refl
text_of-no_scaling level (pos (suc (suc n))) h = cc
text_of-no_scaling level (negsuc n) h = cc

pub scaling_field-other : (z : ℤ) → z ≢ pos 1 → scaling_field z ≡ number_field (codes "scaling_factor") z
unfolding scaling_field number_field
scaling_field-other (pos zero) h = refl
scaling_field-other (pos (suc zero)) h = absurd (h refl)
scaling_field-other (pos (suc (suc n))) h = refl
scaling_field-other (negsuc n) h = refl

pub ruleset scaling = (text_of-no_scaling, scaling_field-other, append-nil)

-- an empty expression is left out, and else it is a message like others
pub text_of-no_expression : (level : ℕ) (name : List ℕ) (e : LinearExpr) → is_empty_expression e ≡ true → text_of level (expression_field name e) ≡ []
unfolding text_of expression_field
text_of-no_expression level name e h = rw h refl

pub expression_field-other : (name : List ℕ) (e : LinearExpr) → is_empty_expression e ≡ false → expression_field name e ≡ message_field name (printed_expression e)
unfolding expression_field
expression_field-other name e h = rw h refl

pub ruleset expression_lines = (text_of-no_expression, expression_field-other, append-nil)

-- what each part of a message adds to its text

pub text_of-empty : (level : ℕ) → text_of level empty ≡ []
unfolding text_of
text_of-empty level = refl

pub text_of-message_field : (level : ℕ) (name : List ℕ) (fields : PrintedMessage) → text_of level (message_field name fields) ≡ opening level name ++ (text_of (suc level) fields ++ closing level)
unfolding text_of
text_of-message_field level name fields = rw append-nil refl

pub text_of-list_field : (level : ℕ) (name : List ℕ) (ns : List ℤ) → text_of level (list_field name ns) ≡ list_lines signed_decimal level name ns
unfolding text_of list_field
text_of-list_field level name [] = refl
text_of-list_field level name (n ∷ ns) = append-nil (value_line level name (in_brackets signed_decimal n ns))

pub text_of-followed_by : (level : ℕ) (fields others : PrintedMessage) → text_of level (followed_by fields others) ≡ text_of level fields ++ text_of level others
unfolding text_of followed_by
text_of-followed_by level empty others = refl
text_of-followed_by level (number name n more) others =
    ap (λ xs. value_line level name (signed_decimal n) ++ xs) (text_of-followed_by level more others) ∙ sym (append_assoc (value_line level name (signed_decimal n)) (text_of level more) (text_of level others))
text_of-followed_by level (numbers name n ns more) others =
    ap (λ xs. value_line level name (in_brackets signed_decimal n ns) ++ xs) (text_of-followed_by level more others) ∙ sym (append_assoc (value_line level name (in_brackets signed_decimal n ns)) (text_of level more) (text_of level others))
text_of-followed_by level (word name w more) others =
    ap (λ xs. value_line level name w ++ xs) (text_of-followed_by level more others) ∙ sym (append_assoc (value_line level name w) (text_of level more) (text_of level others))
text_of-followed_by level (quoted name w more) others =
    ap (λ xs. value_line level name (in_quotes w) ++ xs) (text_of-followed_by level more others) ∙ sym (append_assoc (value_line level name (in_quotes w)) (text_of level more) (text_of level others))
text_of-followed_by level (message name inner more) others =
    rw (text_of-followed_by level more others) (simp append_assoc)

-- a message for each item is written item by item
pub text_of-repeated_field : {X : Type 0} (level : ℕ) (name : List ℕ) (printed : X → PrintedMessage) (xs : List X) → text_of level (repeated_field name printed xs) ≡ flat_map (λ x. text_of level (message_field name (printed x))) xs
unfolding text_of repeated_field
text_of-repeated_field level name printed [] = refl
text_of-repeated_field level name printed (x ∷ xs) =
    let more = text_of-repeated_field level name printed xs in
    let here : text_of level (message_field name (printed x)) ≡ opening level name ++ (text_of (suc level) (printed x) ++ closing level) = text_of-message_field level name (printed x) in
    rw (more, here) (simp append_assoc)

pub ruleset layout = (text_of-followed_by, text_of-message_field, text_of-empty, text_of-list_field, text_of-repeated_field, append_assoc, append-nil)

-- a text that gains the fields of a message one after the other, and then the whole message

pub none_left : (level : ℕ) (s : List ℕ) → s ≡ s ++ text_of level empty
unfolding text_of
none_left level s = sym (append-nil s)

-- a number that is 0 is left out
pub zero_left : (level : ℕ) (name s : List ℕ) → s ≡ s ++ text_of level (number_field name (pos 0))
unfolding text_of number_field
zero_left level name s = sym (append-nil s)

pub field_then : (level : ℕ) (field others : PrintedMessage) (s t u : List ℕ) → t ≡ s ++ text_of level field → u ≡ t ++ text_of level others → u ≡ s ++ text_of level (followed_by field others)
field_then level field others s t u p q =
    q ∙ (ap (λ xs. xs ++ text_of level others) p ∙ (append_assoc s (text_of level field) (text_of level others) ∙ ap (λ xs. s ++ xs) (sym (text_of-followed_by level field others))))

pub list_then : (level : ℕ) (name : List ℕ) (ns ks : List ℤ) (others : PrintedMessage) (s t u : List ℕ) → ns ≡ ks → t ≡ s ++ list_lines signed_decimal level name ns → u ≡ t ++ text_of level others → u ≡ s ++ text_of level (followed_by (list_field name ks) others)
list_then level name ns ks others s t u e p q =
    field_then level (list_field name ks) others s t u (p ∙ ap (λ xs. s ++ xs) (ap (λ ms. list_lines signed_decimal level name ms) e ∙ sym (text_of-list_field level name ks))) q

pub number_then : (level : ℕ) (name : List ℕ) (n k : ℤ) (others : PrintedMessage) (s t u : List ℕ) → n ≡ k → t ≡ s ++ text_of level (number_field name n) → u ≡ t ++ text_of level others → u ≡ s ++ text_of level (followed_by (number_field name k) others)
number_then level name n k others s t u e p q =
    field_then level (number_field name k) others s t u (p ∙ ap (λ m. s ++ text_of level (number_field name m)) e) q

pub word_then : (level : ℕ) (name w v : List ℕ) (others : PrintedMessage) (s t u : List ℕ) → w ≡ v → t ≡ s ++ text_of level (word_field name w) → u ≡ t ++ text_of level others → u ≡ s ++ text_of level (followed_by (word_field name v) others)
word_then level name w v others s t u e p q =
    field_then level (word_field name v) others s t u (p ∙ ap (λ m. s ++ text_of level (word_field name m)) e) q

pub text_then : (level : ℕ) (name w v : List ℕ) (others : PrintedMessage) (s t u : List ℕ) → w ≡ v → t ≡ s ++ text_of level (text_field name w) → u ≡ t ++ text_of level others → u ≡ s ++ text_of level (followed_by (text_field name v) others)
text_then level name w v others s t u e p q =
    field_then level (text_field name v) others s t u (p ∙ ap (λ m. s ++ text_of level (text_field name m)) e) q

pub scaling_then : (level : ℕ) (n k : ℤ) (others : PrintedMessage) (s t u : List ℕ) → n ≡ k → t ≡ s ++ text_of level (scaling_field n) → u ≡ t ++ text_of level others → u ≡ s ++ text_of level (followed_by (scaling_field k) others)
scaling_then level n k others s t u e p q =
    field_then level (scaling_field k) others s t u (p ∙ ap (λ m. s ++ text_of level (scaling_field m)) e) q

pub repeated_then : {X : Type 0} (level : ℕ) (name : List ℕ) (printed : X → PrintedMessage) (xs ys : List X) (others : PrintedMessage) (s t u : List ℕ) → xs ≡ ys → t ≡ s ++ flat_map (λ x. text_of level (message_field name (printed x))) xs → u ≡ t ++ text_of level others → u ≡ s ++ text_of level (followed_by (repeated_field name printed ys) others)
repeated_then level name printed xs ys others s t u e p q =
    field_then level (repeated_field name printed ys) others s t u
    (p ∙ ap (λ zs. s ++ zs) (ap (λ zs. flat_map (λ x. text_of level (message_field name (printed x))) zs) e ∙ sym (text_of-repeated_field level name printed ys))) q

pub message_then : (level : ℕ) (name : List ℕ) (fields : PrintedMessage) (s t u v : List ℕ) → t ≡ s ++ opening level name → u ≡ t ++ text_of (suc level) fields → v ≡ u ++ closing level → v ≡ s ++ text_of level (message_field name fields)
message_then level name fields s t u v p q r =
    r ∙ rw (q, p, text_of-message_field level name fields) (simp append_assoc)
