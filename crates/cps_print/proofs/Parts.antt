-- Messages of parts, each of which is left out where it says nothing: they are plain, admitted, and read back.
use Rattle.std.specs.Prelude.{map, if◌then◌else◌}
use Rattle.std.specs.List.{list_all}
use Rattle.std.specs.Str.{bytes_eq}
use Rattle.std.proofs.Common.{◌≡◌, ◌||◌, ℕ, zero, suc, Bool, true, false, ℤ, pos, negsuc, List, [], ◌∷◌, ◌++◌, Some, refl, sym, ap, ◌∙◌, append-nil}
use Rattle.std.proofs.lemmas.List.{map-append}
use Rattle.cps_lex.specs.Bytes.{is_word_start, is_word}
use Rattle.cps_lex.specs.Forms.{is_identifier}
use Rattle.cps_textproto.specs.Trees.{Tree}
use Rattle.cps_model.specs.declared.model.LinearExpr.{LinearExpr}
use Rattle.cps_schema.specs.Written.{Written}
use Rattle.cps_schema.specs.declared.number.Number.{Number}
use Rattle.cps_schema.specs.Numbers.{fits}
use Rattle.cps_schema.specs.declared.form.Form.{Form}
use Rattle.cps_schema.specs.declared.form.Form.TheVariants.{Newer}
use Rattle.cps_schema.specs.Tables as tables
use Rattle.cps_schema.specs.Tables.{use_of, content_of, is_given, expression_message}
use Rattle.cps_schema.specs.Faults.{is_other_form, has_other_form}
use Rattle.cps_schema.specs.Readings as readings
use Rattle.cps_schema.specs.Readings.{first_or, read_expression, messages}
use Rattle.cps_print.specs.Layout.{PrintedMessage, empty}
use Rattle.cps_print.specs.Fields.{followed_by, number_field, list_field, word_field, message_field, repeated_field}
use Rattle.cps_print.specs.Expressions.{printed_expression, is_empty_expression, expression_field}
use Rattle.cps_print.specs.Kinds.{flag_name, expressions_field}
use Rattle.cps_print.proofs.Digits.{and_true}
use Rattle.cps_print.proofs.Cuts.{IsPlain}
use Rattle.cps_print.proofs.Shown.{Shows, IsAdmitted, TakesMessage, each, formed, alone, alone_formed, printed_numbers, printed_messages, printed_truths, is_printed, numbers-shown, truths-shown, gives-shown}
use Rattle.cps_print.proofs.Readable.{Each, AreFit, IsReadableExpression, each_append}
use Rattle.cps_print.proofs.Fitting.{fit_short, are_short, plain-followed_by, plain-list_field, plain-number_field, IsWord, plain-word_field, plain-repeated_field, admitted-list, admitted-number, admitted-repeated, number_list, printed_numbers-followed_by, printed_numbers-list_field, printed_numbers-number_field, printed_numbers-word_field, printed_numbers-repeated_field, printed_messages-followed_by, printed_messages-list_field, printed_messages-number_field, printed_messages-word_field, printed_messages-repeated_field, printed_truths-followed_by, printed_truths-list_field, printed_truths-number_field, printed_truths-repeated_field, is_printed-followed_by}
use Rattle.cps_print.proofs.Back.{each_of, messages_back}
use Rattle.cps_print.proofs.Expressions.{expression_plain, expression_admitted, expression_back, plain-expression_field, expression_list}

pub data Part : Type 0 where
  list : Number → List ℕ → List ℤ → Part
  number : Number → List ℕ → ℤ → Part
  flag : List ℕ → Bool → Part
  expression : List ℕ → LinearExpr → Part
  several : List ℕ → List LinearExpr → Part

abbrev pub name_of : Part → List ℕ
name_of (list type name ns) = name
name_of (number type name z) = name
name_of (flag name b) = name
name_of (expression name e) = name
name_of (several name es) = name

abbrev pub part_field : Part → PrintedMessage
part_field (list type name ns) = list_field name ns
part_field (number type name z) = number_field name z
part_field (flag name b) = word_field name (flag_name b)
part_field (expression name e) = expression_field name e
part_field (several name es) = expressions_field name es

abbrev pub parts_message : List Part → PrintedMessage
parts_message [] = empty
parts_message (p ∷ ps) = followed_by (part_field p) (parts_message ps)

-- the numbers of a part fit their types
abbrev pub IsFit : Part → Type 0
IsFit (list type name ns) = AreFit type ns
IsFit (number type name z) = fits type z ≡ true
IsFit (flag name b) = Unit {0}
IsFit (expression name e) = IsReadableExpression e
IsFit (several name es) = Each IsReadableExpression es

-- plain

flag_word : (b : Bool) → IsWord (flag_name b)
unfolding is_word_start is_word
flag_word true = refl
flag_word false = tt

part_plain : (room : ℕ) (p : Part) → is_identifier (name_of p) ≡ true → IsFit p → IsPlain (suc room) (part_field p)
part_plain room (list type name ns) i f = plain-list_field (suc room) name ns i (are_short type ns f)
part_plain room (number type name z) i f = plain-number_field (suc room) name z i (fit_short type z f)
part_plain room (flag name b) i f = plain-word_field (suc room) name (flag_name b) i (flag_word b)
part_plain room (expression name e) i f = plain-expression_field room name e i f
part_plain room (several name es) i f =
    plain-repeated_field room name printed_expression es i (each_of IsReadableExpression (λ e. IsPlain room (printed_expression e)) (expression_plain room) es f)

pub parts_plain : (room : ℕ) (ps : List Part) → list_all (λ p. is_identifier (name_of p)) ps ≡ true → Each IsFit ps → IsPlain (suc room) (parts_message ps)
parts_plain room [] n f = tt
parts_plain room (p ∷ ps) n f =
    let both = and_true (is_identifier (name_of p)) (list_all (λ q. is_identifier (name_of q)) ps) n in
    plain-followed_by (suc room) (part_field p) (parts_message ps) (part_plain room p both.0 f.0) (parts_plain room ps both.1 f.1)

-- admitted

-- the table has such a field for one expression, behind fields of these names
pub data TakesOne (m : tables.Message) (seen : List (List ℕ)) (name : List ℕ) : Type 0 where
  once : use_of m name ≡ Some (tables.single (tables.message expression_message)) → is_given seen name ≡ false → TakesOne m seen name
  once_formed : use_of m name ≡ Some (tables.formed_single Newer (tables.message expression_message)) → is_given seen name ≡ false → has_other_form m Newer seen ≡ false → TakesOne m seen name

-- and for expressions
pub data TakesSome (m : tables.Message) (seen : List (List ℕ)) (name : List ℕ) : Type 0 where
  some : use_of m name ≡ Some (tables.repeated (tables.message expression_message)) → TakesSome m seen name
  some_formed : use_of m name ≡ Some (tables.formed Newer (tables.message expression_message)) → has_other_form m Newer seen ≡ false → TakesSome m seen name

abbrev pub TakesPart : tables.Message → List (List ℕ) → Part → Type 0
TakesPart m seen (list type name ns) = use_of m name ≡ Some (tables.repeated (tables.number type))
TakesPart m seen (number type name z) = (use_of m name ≡ Some (tables.single (tables.number type))) × (is_given seen name ≡ false)
TakesPart m seen (flag name b) = (use_of m name ≡ Some (tables.single tables.truth)) × (is_given seen name ≡ false)
TakesPart m seen (expression name e) = TakesOne m seen name
TakesPart m seen (several name es) = TakesSome m seen name

-- the table has these fields, where all of them are written
abbrev pub Takes : tables.Message → List (List ℕ) → List Part → Type 0
Takes m seen [] = Unit {0}
Takes m seen (p ∷ ps) = TakesPart m seen p × Takes m (name_of p ∷ seen) ps

-- what was written is of what could have been
record IsAmong (m : tables.Message) (before seen : List (List ℕ)) : Type 0 where
  given : (name : List ℕ) → is_given seen name ≡ false → is_given before name ≡ false
  other : (form : Form) → has_other_form m form seen ≡ false → has_other_form m form before ≡ false

or_false : (a b : Bool) → (a || b) ≡ false → (a ≡ false) × (b ≡ false)
or_false false b e = (refl, e)
or_false true b e = cc

both_false : (a b : Bool) → a ≡ false → b ≡ false → (a || b) ≡ false
both_false a b p q = rw (p, q) refl

next_given : (names : List (List ℕ)) (x name : List ℕ) → is_given (x ∷ names) name ≡ (bytes_eq name x || is_given names name)
unfolding is_given
next_given names x name = refl

next_form : (m : tables.Message) (form : Form) (names : List (List ℕ)) (x : List ℕ) → has_other_form m form (x ∷ names) ≡ (is_other_form form (use_of m x) || has_other_form m form names)
unfolding has_other_form
next_form m form names x = refl

among_none : (m : tables.Message) → IsAmong m [] []
among_none m = record { given = λ name e. e; other = λ form e. e }

among_one : (m : tables.Message) (before seen : List (List ℕ)) (x : List ℕ) → IsAmong m before seen → IsAmong m before (x ∷ seen)
among_one m before seen x w = record {
  given = λ name e. w.given name (or_false (bytes_eq name x) (is_given seen name) (sym (next_given seen x name) ∙ e)).1;
  other = λ form e. w.other form (or_false (is_other_form form (use_of m x)) (has_other_form m form seen) (sym (next_form m form seen x) ∙ e)).1;
}

among_again : (m : tables.Message) (before seen : List (List ℕ)) (x : List ℕ) → IsAmong m before (x ∷ seen) → IsAmong m (x ∷ before) (x ∷ seen)
among_again m before seen x w = record {
  given = λ name e.
      next_given before x name
      ∙ both_false (bytes_eq name x) (is_given before name) (or_false (bytes_eq name x) (is_given seen name) (sym (next_given seen x name) ∙ e)).0 (w.given name e);
  other = λ form e.
      next_form m form before x
      ∙ both_false (is_other_form form (use_of m x)) (has_other_form m form before) (or_false (is_other_form form (use_of m x)) (has_other_form m form seen) (sym (next_form m form seen x) ∙ e)).0 (w.other form e);
}

admitted-flag : (closed : List (List ℕ)) (m : tables.Message) (before : List (List ℕ)) (name : List ℕ) (b : Bool) (others : PrintedMessage) → use_of m name ≡ Some (tables.single tables.truth) → is_given before name ≡ false → IsAdmitted closed m before others → IsAdmitted closed m (name ∷ before) others → IsAdmitted closed m before (followed_by (word_field name (flag_name b)) others)
unfolding word_field followed_by
admitted-flag closed m before name true others takes first left written =
    (record { value = tables.truth; content = ap content_of takes; clear = rw (takes, first) refl; named = (true, refl) }, written)
admitted-flag closed m before name false others takes first left written = left

admitted-expression_field : (closed : List (List ℕ)) (m : tables.Message) (before : List (List ℕ)) (name : List ℕ) (e : LinearExpr) (others : PrintedMessage) → TakesMessage closed m before name (λ k. IsAdmitted closed k [] (printed_expression e)) → IsAdmitted closed m before others → IsAdmitted closed m (name ∷ before) others → IsAdmitted closed m before (followed_by (expression_field name e) others)
unfolding expression_field followed_by
admitted-expression_field closed m before name e others takes left written = by (is_empty_expression e) where
  by : (left_out : Bool) → IsAdmitted closed m before (followed_by (if left_out then empty else message_field name (printed_expression e)) others)
  by true = left
  by false = (takes, written)

formed_apart : (m : tables.Message) (seen : List (List ℕ)) (name : List ℕ) → use_of m name ≡ Some (tables.formed Newer (tables.message expression_message)) → has_other_form m Newer seen ≡ false → has_other_form m Newer (name ∷ seen) ≡ false
formed_apart m seen name takes apart = next_form m Newer seen name ∙ rw (takes, apart) refl

expressions_admitted : (closed : List (List ℕ)) (m : tables.Message) (seen before : List (List ℕ)) (name : List ℕ) (es : List LinearExpr) (others : PrintedMessage) → IsAmong m before seen → TakesSome m seen name → Each IsReadableExpression es → ((b : List (List ℕ)) → IsAmong m b (name ∷ seen) → IsAdmitted closed m b others) → IsAdmitted closed m before (followed_by (expressions_field name es) others)
expressions_admitted closed m seen before name es others w takes f rest = by takes where
  inner : Each (λ e. IsAdmitted closed expression_message [] (printed_expression e)) es
  inner = each_of IsReadableExpression (λ e. IsAdmitted closed expression_message [] (printed_expression e)) (expression_admitted closed) es f

  by : TakesSome m seen name → IsAdmitted closed m before (followed_by (expressions_field name es) others)
  by (some t) =
      admitted-repeated closed m name printed_expression expression_message others (λ b. IsAmong m b (name ∷ seen))
      (λ b fields v a. each expression_message t a) (λ b v. among_again m b seen name v) rest es inner before (among_one m before seen name w)
  by (some_formed t apart) =
      admitted-repeated closed m name printed_expression expression_message others (λ b. IsAmong m b (name ∷ seen))
      (λ b fields v a. formed expression_message Newer t (v.other Newer (formed_apart m seen name t apart)) a)
      (λ b v. among_again m b seen name v) rest es inner before (among_one m before seen name w)

one_taken : (closed : List (List ℕ)) (m : tables.Message) (seen before : List (List ℕ)) (name : List ℕ) (e : LinearExpr) → IsAmong m before seen → TakesOne m seen name → IsReadableExpression e → TakesMessage closed m before name (λ k. IsAdmitted closed k [] (printed_expression e))
one_taken closed m seen before name e w (once takes first) f = alone expression_message takes (w.given name first) (expression_admitted closed e f)
one_taken closed m seen before name e w (once_formed takes first apart) f =
    alone_formed expression_message Newer takes (w.given name first) (w.other Newer apart) (expression_admitted closed e f)

part_admitted : (closed : List (List ℕ)) (m : tables.Message) (seen before : List (List ℕ)) (p : Part) (others : PrintedMessage) → IsAmong m before seen → TakesPart m seen p → IsFit p → ((b : List (List ℕ)) → IsAmong m b (name_of p ∷ seen) → IsAdmitted closed m b others) → IsAdmitted closed m before (followed_by (part_field p) others)
part_admitted closed m seen before (list type name ns) others w t f rest =
    let one = among_one m before seen name w in
    admitted-list closed m before name ns type others t f (rest before one) (rest (name ∷ before) (among_again m before seen name one))
part_admitted closed m seen before (number type name z) others w t f rest =
    let one = among_one m before seen name w in
    admitted-number closed m before name z type others t.0 (w.given name t.1) f (rest before one) (rest (name ∷ before) (among_again m before seen name one))
part_admitted closed m seen before (flag name b) others w t f rest =
    let one = among_one m before seen name w in
    admitted-flag closed m before name b others t.0 (w.given name t.1) (rest before one) (rest (name ∷ before) (among_again m before seen name one))
part_admitted closed m seen before (expression name e) others w t f rest =
    let one = among_one m before seen name w in
    admitted-expression_field closed m before name e others (one_taken closed m seen before name e w t f) (rest before one) (rest (name ∷ before) (among_again m before seen name one))
part_admitted closed m seen before (several name es) others w t f rest = expressions_admitted closed m seen before name es others w t f rest

parts_behind : (closed : List (List ℕ)) (m : tables.Message) (seen before : List (List ℕ)) (ps : List Part) → IsAmong m before seen → Takes m seen ps → Each IsFit ps → IsAdmitted closed m before (parts_message ps)
parts_behind closed m seen before [] w t f = tt
parts_behind closed m seen before (p ∷ ps) w t f =
    part_admitted closed m seen before p (parts_message ps) w t.0 f.0 (λ b v. parts_behind closed m (name_of p ∷ seen) b ps v t.1 f.1)

pub parts_admitted : (closed : List (List ℕ)) (m : tables.Message) (ps : List Part) → Takes m [] ps → Each IsFit ps → IsAdmitted closed m [] (parts_message ps)
parts_admitted closed m ps t f = parts_behind closed m [] [] ps (among_none m) t f

-- what is read of them

abbrev pub part_numbers : List ℕ → List Part → List ℤ
part_numbers name [] = []
part_numbers name (list type other ns ∷ ps) = (if bytes_eq other name then ns else []) ++ part_numbers name ps
part_numbers name (number type other z ∷ ps) = (if bytes_eq other name then number_list z else []) ++ part_numbers name ps
part_numbers name (flag other b ∷ ps) = part_numbers name ps
part_numbers name (expression other e ∷ ps) = part_numbers name ps
part_numbers name (several other es ∷ ps) = part_numbers name ps

abbrev pub part_expressions : List ℕ → List Part → List LinearExpr
part_expressions name [] = []
part_expressions name (list type other ns ∷ ps) = part_expressions name ps
part_expressions name (number type other z ∷ ps) = part_expressions name ps
part_expressions name (flag other b ∷ ps) = part_expressions name ps
part_expressions name (expression other e ∷ ps) = (if bytes_eq other name then expression_list e else []) ++ part_expressions name ps
part_expressions name (several other es ∷ ps) = (if bytes_eq other name then es else []) ++ part_expressions name ps

printed_numbers-expression_field : (name other : List ℕ) (e : LinearExpr) → printed_numbers name (expression_field other e) ≡ []
unfolding expression_field
printed_numbers-expression_field name other e = by (is_empty_expression e) where
  by : (left_out : Bool) → printed_numbers name (if left_out then empty else message_field other (printed_expression e)) ≡ []
  by true = refl
  by false = refl

printed_numbers-parts : (name : List ℕ) (ps : List Part) → printed_numbers name (parts_message ps) ≡ part_numbers name ps
printed_numbers-parts name [] = refl
printed_numbers-parts name (list type other ns ∷ ps) =
    printed_numbers-followed_by name (list_field other ns) (parts_message ps) ∙ rw (printed_numbers-list_field name other ns, printed_numbers-parts name ps) refl
printed_numbers-parts name (number type other z ∷ ps) =
    printed_numbers-followed_by name (number_field other z) (parts_message ps) ∙ rw (printed_numbers-number_field name other z, printed_numbers-parts name ps) refl
printed_numbers-parts name (flag other b ∷ ps) =
    printed_numbers-followed_by name (word_field other (flag_name b)) (parts_message ps) ∙ rw (printed_numbers-word_field name other (flag_name b), printed_numbers-parts name ps) refl
printed_numbers-parts name (expression other e ∷ ps) =
    printed_numbers-followed_by name (expression_field other e) (parts_message ps) ∙ rw (printed_numbers-expression_field name other e, printed_numbers-parts name ps) refl
printed_numbers-parts name (several other es ∷ ps) =
    printed_numbers-followed_by name (expressions_field other es) (parts_message ps) ∙ rw (printed_numbers-repeated_field name other printed_expression es, printed_numbers-parts name ps) refl

same_choice : {X : Type 0} (b : Bool) (x : X) → (if b then x else x) ≡ x
same_choice true x = refl
same_choice false x = refl

map-choice : (b : Bool) (es : List LinearExpr) → (if b then map printed_expression es else []) ≡ map printed_expression (if b then es else [])
map-choice true es = refl
map-choice false es = refl

printed_messages-expression_field : (name other : List ℕ) (e : LinearExpr) → printed_messages name (expression_field other e) ≡ map printed_expression (if bytes_eq other name then expression_list e else [])
unfolding expression_field
printed_messages-expression_field name other e = by (is_empty_expression e) (bytes_eq other name) where
  by : (left_out same : Bool) → printed_messages name (if left_out then empty else message_field other (printed_expression e)) ≡ map printed_expression (if bytes_eq other name then (if left_out then [] else e ∷ []) else [])
  by true same = sym (ap (λ es. map printed_expression es) (same_choice {X = List LinearExpr} (bytes_eq other name) []))
  by false same = append-nil (if bytes_eq other name then printed_expression e ∷ [] else []) ∙ map-choice (bytes_eq other name) (e ∷ [])

messages_then : (a b : List PrintedMessage) (xs ys : List LinearExpr) → a ≡ map printed_expression xs → b ≡ map printed_expression ys → a ++ b ≡ map printed_expression (xs ++ ys)
messages_then a b xs ys p q = rw (p, q) (sym (map-append printed_expression xs ys))

printed_messages-parts : (name : List ℕ) (ps : List Part) → printed_messages name (parts_message ps) ≡ map printed_expression (part_expressions name ps)
printed_messages-parts name [] = refl
printed_messages-parts name (list type other ns ∷ ps) =
    printed_messages-followed_by name (list_field other ns) (parts_message ps) ∙ rw (printed_messages-list_field name other ns, printed_messages-parts name ps) refl
printed_messages-parts name (number type other z ∷ ps) =
    printed_messages-followed_by name (number_field other z) (parts_message ps) ∙ rw (printed_messages-number_field name other z, printed_messages-parts name ps) refl
printed_messages-parts name (flag other b ∷ ps) =
    printed_messages-followed_by name (word_field other (flag_name b)) (parts_message ps) ∙ rw (printed_messages-word_field name other (flag_name b), printed_messages-parts name ps) refl
printed_messages-parts name (expression other e ∷ ps) =
    printed_messages-followed_by name (expression_field other e) (parts_message ps)
    ∙ messages_then _ _ (if bytes_eq other name then expression_list e else []) (part_expressions name ps) (printed_messages-expression_field name other e) (printed_messages-parts name ps)
printed_messages-parts name (several other es ∷ ps) =
    printed_messages-followed_by name (expressions_field other es) (parts_message ps)
    ∙ messages_then _ _ (if bytes_eq other name then es else []) (part_expressions name ps)
    (printed_messages-repeated_field name other printed_expression es ∙ map-choice (bytes_eq other name) es) (printed_messages-parts name ps)

one_readable : (e : LinearExpr) → IsReadableExpression e → Each IsReadableExpression (expression_list e)
one_readable e r = by (is_empty_expression e) where
  by : (left_out : Bool) → Each IsReadableExpression (if left_out then [] else e ∷ [])
  by true = tt
  by false = (r, tt)

chosen_readable : (b : Bool) (es : List LinearExpr) → Each IsReadableExpression es → Each IsReadableExpression (if b then es else [])
chosen_readable true es r = r
chosen_readable false es r = tt

parts_readable : (name : List ℕ) (ps : List Part) → Each IsFit ps → Each IsReadableExpression (part_expressions name ps)
parts_readable name [] f = tt
parts_readable name (list type other ns ∷ ps) f = parts_readable name ps f.1
parts_readable name (number type other z ∷ ps) f = parts_readable name ps f.1
parts_readable name (flag other b ∷ ps) f = parts_readable name ps f.1
parts_readable name (expression other e ∷ ps) f =
    each_append IsReadableExpression _ _ (chosen_readable (bytes_eq other name) (expression_list e) (one_readable e f.0)) (parts_readable name ps f.1)
parts_readable name (several other es ∷ ps) f =
    each_append IsReadableExpression _ _ (chosen_readable (bytes_eq other name) es f.0) (parts_readable name ps f.1)

-- a flag that is written unless it is false
abbrev pub flag_list : Bool → List Bool
flag_list true = true ∷ []
flag_list false = []

abbrev pub part_truths : List ℕ → List Part → List Bool
part_truths name [] = []
part_truths name (list type other ns ∷ ps) = part_truths name ps
part_truths name (number type other z ∷ ps) = part_truths name ps
part_truths name (flag other b ∷ ps) = (if bytes_eq other name then flag_list b else []) ++ part_truths name ps
part_truths name (expression other e ∷ ps) = part_truths name ps
part_truths name (several other es ∷ ps) = part_truths name ps

printed_truths-flag : (name other : List ℕ) (b : Bool) → printed_truths name (word_field other (flag_name b)) ≡ (if bytes_eq other name then flag_list b else [])
unfolding word_field
printed_truths-flag name other true = append-nil (if bytes_eq other name then true ∷ [] else [])
printed_truths-flag name other false = sym (same_choice {X = List Bool} (bytes_eq other name) [])

printed_truths-expression_field : (name other : List ℕ) (e : LinearExpr) → printed_truths name (expression_field other e) ≡ []
unfolding expression_field
printed_truths-expression_field name other e = by (is_empty_expression e) where
  by : (left_out : Bool) → printed_truths name (if left_out then empty else message_field other (printed_expression e)) ≡ []
  by true = refl
  by false = refl

printed_truths-parts : (name : List ℕ) (ps : List Part) → printed_truths name (parts_message ps) ≡ part_truths name ps
printed_truths-parts name [] = refl
printed_truths-parts name (list type other ns ∷ ps) =
    printed_truths-followed_by name (list_field other ns) (parts_message ps) ∙ rw (printed_truths-list_field name other ns, printed_truths-parts name ps) refl
printed_truths-parts name (number type other z ∷ ps) =
    printed_truths-followed_by name (number_field other z) (parts_message ps) ∙ rw (printed_truths-number_field name other z, printed_truths-parts name ps) refl
printed_truths-parts name (flag other b ∷ ps) =
    printed_truths-followed_by name (word_field other (flag_name b)) (parts_message ps) ∙ rw (printed_truths-flag name other b, printed_truths-parts name ps) refl
printed_truths-parts name (expression other e ∷ ps) =
    printed_truths-followed_by name (expression_field other e) (parts_message ps) ∙ rw (printed_truths-expression_field name other e, printed_truths-parts name ps) refl
printed_truths-parts name (several other es ∷ ps) =
    printed_truths-followed_by name (expressions_field other es) (parts_message ps) ∙ rw (printed_truths-repeated_field name other printed_expression es, printed_truths-parts name ps) refl

-- none of the parts has this name
abbrev pub has_part : List ℕ → List Part → Bool
has_part name [] = false
has_part name (p ∷ ps) = bytes_eq (name_of p) name || has_part name ps

field_apart : (name : List ℕ) (p : Part) → bytes_eq (name_of p) name ≡ false → is_printed name (part_field p) ≡ false
unfolding list_field number_field word_field expression_field repeated_field
field_apart name (list type other []) e = refl
field_apart name (list type other (n ∷ ns)) e = rw e refl
field_apart name (number type other (pos zero)) e = refl
field_apart name (number type other (pos (suc n))) e = rw e refl
field_apart name (number type other (negsuc n)) e = rw e refl
field_apart name (flag other true) e = rw e refl
field_apart name (flag other false) e = refl
field_apart name (expression other x) e = by (is_empty_expression x) where
  by : (left_out : Bool) → is_printed name (if left_out then empty else message_field other (printed_expression x)) ≡ false
  by true = refl
  by false = rw e refl
field_apart name (several other []) e = refl
field_apart name (several other (x ∷ xs)) e = rw (e, field_apart name (several other xs) e) refl

not_printed : (name : List ℕ) (ps : List Part) → has_part name ps ≡ false → is_printed name (parts_message ps) ≡ false
not_printed name [] e = refl
not_printed name (p ∷ ps) e =
    let both = or_false (bytes_eq (name_of p) name) (has_part name ps) e in
    is_printed-followed_by name (part_field p) (parts_message ps) ∙ rw (field_apart name p both.0, not_printed name ps both.1) refl

-- a tree that shows these parts of a message
pub record ShowsParts (w : Written) (m : tables.Message) (ps : List Part) (t : Tree) : Type 0 where
  pub takes : Takes m [] ps
  pub fit : Each IsFit ps
  pub shows : Shows w (parts_message ps) t

pub numbers_back : (w : Written) (m : tables.Message) (ps : List Part) (t : Tree) → ShowsParts w m ps t → (name : List ℕ) (type : Number) → content_of (use_of m name) ≡ Some (tables.number type) → readings.numbers w name t ≡ part_numbers name ps
numbers_back w m ps t s name type takes =
    numbers-shown w m [] name type (parts_message ps) t takes (parts_admitted w.closed m ps s.takes s.fit) s.shows ∙ printed_numbers-parts name ps

pub expressions_back : (w : Written) (m : tables.Message) (ps : List Part) (t : Tree) → ShowsParts w m ps t → (name : List ℕ) → map (read_expression w) (messages w name t) ≡ part_expressions name ps
expressions_back w m ps t s name =
    messages_back w IsReadableExpression printed_expression (read_expression w) (expression_back w) name (parts_message ps) t (part_expressions name ps) (printed_messages-parts name ps) (parts_readable name ps s.fit) s.shows

pub truths_back : (w : Written) (m : tables.Message) (ps : List Part) (t : Tree) → ShowsParts w m ps t → (name : List ℕ) → content_of (use_of m name) ≡ Some tables.truth → readings.truths w name t ≡ part_truths name ps
truths_back w m ps t s name takes =
    truths-shown w m [] name (parts_message ps) t takes (parts_admitted w.closed m ps s.takes s.fit) s.shows ∙ printed_truths-parts name ps

pub gives_nothing : (w : Written) (m : tables.Message) (ps : List Part) (t : Tree) → ShowsParts w m ps t → (name : List ℕ) → has_part name ps ≡ false → readings.gives w name t ≡ false
gives_nothing w m ps t s name e = gives-shown w name (parts_message ps) t s.shows ∙ not_printed name ps e
