-- Variables and constraints are read as they were printed.
use Rattle.std.specs.Prelude.{codes}
use Rattle.std.specs.Str.{bytes_eq}
use Rattle.std.proofs.Common.{◌≡◌, ◌||◌, ℕ, suc, true, false, ℤ, List, [], ◌∷◌, Some, None, inl, inr, refl, subst, ap, ◌∙◌}
use Rattle.cps_lex.specs.Bytes.{is_word_start, is_word}
use Rattle.cps_lex.specs.Forms.{is_identifier}
use Rattle.cps_textproto.specs.Trees.{Tree, no_fields, field, no_values, scalar_value, message_value}
use Rattle.cps_model.specs.declared.model.Variable.{Variable}
use Rattle.cps_model.specs.declared.constraint.Constraint.{Constraint}
use Rattle.cps_model.specs.declared.constraint.Kind.{Kind}
use Rattle.cps_model.specs.declared.constraint.Kind.TheVariants.{Empty}
use Rattle.cps_schema.specs.declared.kind.KindName.{KindName}
use Rattle.cps_schema.specs.declared.kind.KindName.TheVariants as names
use Rattle.cps_schema.specs.Written.{Written}
use Rattle.cps_schema.specs.declared.number.Number.TheVariants.{Int64, Int32}
use Rattle.cps_schema.specs.Tables as tables
use Rattle.cps_schema.specs.Tables.{use_of, content_of, is_given, variable_message, constraint_message}
use Rattle.cps_schema.specs.Kinds.{field_name, message_of, kind_named}
use Rattle.cps_schema.specs.Faults.{is_kind, has_kind, fields_fault}
use Rattle.cps_schema.specs.Readings as readings
use Rattle.cps_schema.specs.Readings.{first_or, read_variable, given_kinds, read_constraint}
use Rattle.cps_schema.proofs.GivenKinds.{kind_use}
use Rattle.cps_print.specs.Layout.{PrintedMessage, empty}
use Rattle.cps_print.specs.Fields.{followed_by, list_field, text_field, message_field}
use Rattle.cps_print.specs.Kinds.{kind_field}
use Rattle.cps_print.specs.Models.{printed_variable, printed_constraint}
use Rattle.cps_print.proofs.Cuts.{IsPlain}
use Rattle.cps_print.proofs.Shown.{Shows, IsAdmitted, kind, content_clash, printed_numbers, printed_texts, numbers-shown, texts-shown}
use Rattle.cps_print.proofs.Readable.{AreFit, IsReadableText, IsReadableVariable, numbers_fit, name_utf8}
use Rattle.cps_print.proofs.Parts.{parts_message, parts_plain, parts_admitted}
use Rattle.cps_print.proofs.KindFields.{AsField, IsReadableKind, kind_readable}
use Rattle.cps_print.proofs.Fitting.{are_short, plain-followed_by, plain-list_field, plain-text_field, plain-message_field, admitted-list, admitted-text, admitted-message, given-other, text_list, printed}
use Rattle.cps_print.proofs.Back.{first_text}

-- variables

pub variable_plain : (room : ℕ) (v : Variable) → IsReadableVariable v → IsPlain room (printed_variable v)
unfolding is_word_start is_word
variable_plain room v r =
    plain-followed_by room (text_field (codes "name") v.name) _ (plain-text_field room (codes "name") v.name refl r.name)
    (plain-followed_by room (list_field (codes "domain") v.domain) empty (plain-list_field room (codes "domain") v.domain refl (are_short Int64 v.domain r.domain)) tt)

pub variable_admitted : (closed : List (List ℕ)) (v : Variable) → IsReadableVariable v → IsAdmitted closed variable_message [] (printed_variable v)
unfolding use_of is_given
variable_admitted closed v r =
    let domain = λ (before : List (List ℕ)). admitted-list closed variable_message before (codes "domain") v.domain Int64 empty refl r.domain tt tt in
    admitted-text closed variable_message [] (codes "name") v.name _ refl refl (domain []) (domain (codes "name" ∷ []))

pub variable_back : (w : Written) (v : Variable) (t : Tree) → IsReadableVariable v → Shows w (printed_variable v) t → read_variable w t ≡ v
unfolding use_of
variable_back w v t r s =
    let a = variable_admitted w.closed v r in
    let name : readings.texts w (codes "name") t ≡ text_list v.name = texts-shown w variable_message [] (codes "name") (printed_variable v) t refl a s ∙ simp printed in
    let domain : readings.numbers w (codes "domain") t ≡ v.domain = numbers-shown w variable_message [] (codes "domain") Int64 (printed_variable v) t refl a s ∙ simp printed in
    rw (name, domain, first_text v.name) refl

-- kinds

-- a kind's name can stand in a text, and is that of the kind
name_plain : (name : KindName) → is_identifier (field_name name) ≡ true
unfolding is_word_start is_word
name_plain names.BoolOr = refl
name_plain _ = refl

name_named : (name : KindName) → kind_named (field_name name) ≡ Some name
name_named names.BoolOr = refl
name_named _ = refl

kind_plain : (closed : List (List ℕ)) (room : ℕ) (k : Kind) → IsReadableKind closed k → IsPlain (suc (suc room)) (kind_field k)
kind_plain closed room k (inl e) = rw e tt
kind_plain closed room k (inr f) =
    rw f.message.is (plain-message_field (suc room) (field_name f.name) (parts_message f.message.parts) (name_plain f.name) (parts_plain room f.message.parts f.message.named f.message.fit))

-- no kind has been given
record IsKindFree (before : List (List ℕ)) : Type 0 where
  names : (name : KindName) → is_given before (field_name name) ≡ false
  kinds : has_kind constraint_message before ≡ false

next_kind : (other : List ℕ) (before : List (List ℕ)) → has_kind constraint_message (other ∷ before) ≡ (is_kind (use_of constraint_message other) || has_kind constraint_message before)
unfolding has_kind
next_kind other before = refl

kind_kept : (other : List ℕ) (before : List (List ℕ)) → ((name : KindName) → bytes_eq (field_name name) other ≡ false) → is_kind (use_of constraint_message other) ≡ false → IsKindFree before → IsKindFree (other ∷ before)
kind_kept other before apart none f = record {
  names = λ name. given-other before other (field_name name) (apart name) (f.names name);
  kinds = next_kind other before ∙ rw (none, f.kinds) refl;
}

-- no kind has the name of another field
name_apart : (name : KindName) → bytes_eq (field_name name) (codes "name") ≡ false
unfolding use_of
name_apart name =
    content_clash constraint_message (field_name name) (codes "name") (tables.message (message_of name)) tables.text (ap content_of (kind_use name)) refl (λ e. cc)

enforcement_apart : (name : KindName) → bytes_eq (field_name name) (codes "enforcement_literal") ≡ false
unfolding use_of
enforcement_apart name =
    content_clash constraint_message (field_name name) (codes "enforcement_literal") (tables.message (message_of name)) (tables.number Int32) (ap content_of (kind_use name)) refl (λ e. cc)

kind_admitted : (closed : List (List ℕ)) (before : List (List ℕ)) (k : Kind) → IsReadableKind closed k → IsKindFree before → IsAdmitted closed constraint_message before (followed_by (kind_field k) empty)
unfolding followed_by
kind_admitted closed before k (inl e) given = rw e tt
kind_admitted closed before k (inr f) given =
    rw f.message.is (admitted-message closed constraint_message before (field_name f.name) (parts_message f.message.parts) empty (kind (message_of f.name) (kind_use f.name) f.opened (given.names f.name) given.kinds (parts_admitted closed (message_of f.name) f.message.parts f.message.takes f.message.fit)) tt)

empty_back : (w : Written) (t : Tree) → Shows w empty t → first_or Empty (given_kinds w t) ≡ Empty
empty_back w no_fields s = refl
empty_back w _ s = absurd s

field_back : (w : Written) (k : Kind) (f : AsField w.closed k) (t : Tree) → Shows w (message_field (field_name f.name) (parts_message f.message.parts)) t → first_or Empty (given_kinds w t) ≡ k
field_back w k f (field token false (message_value first inner no_values) no_fields) s =
    rw (s.0, name_named f.name) (f.message.back w inner (record { takes = f.message.takes; fit = f.message.fit; shows = s.1 }))
field_back w k f (field token false (message_value first inner no_values) (field t l v more)) s = absurd s.2
field_back w k f _ s = absurd s

kind_back : (w : Written) (k : Kind) (t : Tree) → IsReadableKind w.closed k → Shows w (followed_by (kind_field k) empty) t → first_or Empty (given_kinds w t) ≡ k
unfolding followed_by
kind_back w k t (inl e) s = rw e (empty_back w t (subst (λ x. Shows w (followed_by (kind_field x) empty) t) e s))
kind_back w k t (inr f) s = field_back w k f t (subst (λ m. Shows w (followed_by m empty) t) f.message.is s)

-- the kind stands behind the name and the enforcement literals
record Behind (w : Written) (m : PrintedMessage) (t : Tree) : Type 0 where
  rest : Tree
  shows : Shows w m rest
  same : given_kinds w t ≡ given_kinds w rest

behind_literals : (w : Written) (literals : List ℤ) (m : PrintedMessage) (t : Tree) → Shows w (followed_by (list_field (codes "enforcement_literal") literals) m) t → Behind w m t
unfolding followed_by list_field
behind_literals w [] m t s = record { rest = t; shows = s; same = refl }
behind_literals w (l ∷ ls) m no_fields s = absurd s
behind_literals w (l ∷ ls) m (field token false values rest) s = absurd s
behind_literals w (l ∷ ls) m (field token true values rest) s =
    record { rest = rest; shows = s.2; same = rw s.0 refl }

behind_name : (w : Written) (bytes : List ℕ) (m : PrintedMessage) (t : Tree) → Shows w (followed_by (text_field (codes "name") bytes) m) t → Behind w m t
unfolding followed_by text_field
behind_name w [] m t s = record { rest = t; shows = s; same = refl }
behind_name w (b ∷ bytes) m (field token false (scalar_value first end no_values) rest) s =
    record { rest = rest; shows = s.2; same = rw s.0 refl }
behind_name w (b ∷ bytes) m _ s = absurd s

-- constraints

pub record IsReadableConstraint (closed : List (List ℕ)) (c : Constraint) : Type 0 where
  pub name : IsReadableText c.name
  pub enforcement : AreFit Int32 c.enforcement
  pub kind : IsReadableKind closed c.kind

pub constraint_readable : (w : Written) (t : Tree) → fields_fault w constraint_message [] t ≡ None → IsReadableConstraint w.closed (read_constraint w t)
unfolding use_of
constraint_readable w t e = record {
  name = name_utf8 w constraint_message t refl e;
  enforcement = numbers_fit w constraint_message [] (codes "enforcement_literal") Int32 t refl e;
  kind = kind_readable w t e;
}

pub constraint_plain : (closed : List (List ℕ)) (room : ℕ) (c : Constraint) → IsReadableConstraint closed c → IsPlain (suc (suc room)) (printed_constraint c)
unfolding is_word_start is_word
constraint_plain closed room c r =
    plain-followed_by (suc (suc room)) (text_field (codes "name") c.name) _ (plain-text_field (suc (suc room)) (codes "name") c.name refl r.name)
    (plain-followed_by (suc (suc room)) (list_field (codes "enforcement_literal") c.enforcement) _ (plain-list_field (suc (suc room)) (codes "enforcement_literal") c.enforcement refl (are_short Int32 c.enforcement r.enforcement))
    (plain-followed_by (suc (suc room)) (kind_field c.kind) empty (kind_plain closed room c.kind r.kind) tt))

none_kind : IsKindFree []
unfolding is_given has_kind
none_kind = record { names = λ name. refl; kinds = refl }

enforcement_admitted : (closed : List (List ℕ)) (c : Constraint) → IsReadableConstraint closed c → (before : List (List ℕ)) → IsKindFree before → IsAdmitted closed constraint_message before (followed_by (list_field (codes "enforcement_literal") c.enforcement) (followed_by (kind_field c.kind) empty))
unfolding use_of
enforcement_admitted closed c r before f =
    admitted-list closed constraint_message before (codes "enforcement_literal") c.enforcement Int32 _ refl r.enforcement
    (kind_admitted closed before c.kind r.kind f)
    (kind_admitted closed (codes "enforcement_literal" ∷ before) c.kind r.kind (kind_kept (codes "enforcement_literal") before enforcement_apart refl f))

pub constraint_admitted : (closed : List (List ℕ)) (c : Constraint) → IsReadableConstraint closed c → IsAdmitted closed constraint_message [] (printed_constraint c)
unfolding use_of is_given
constraint_admitted closed c r =
    admitted-text closed constraint_message [] (codes "name") c.name _ refl refl
    (enforcement_admitted closed c r [] none_kind)
    (enforcement_admitted closed c r (codes "name" ∷ []) (kind_kept (codes "name") [] name_apart refl none_kind))

kind_no_numbers : (name : List ℕ) (k : Kind) → printed_numbers name (kind_field k) ≡ []
kind_no_numbers name Empty = refl
kind_no_numbers name _ = refl

kind_no_texts : (name : List ℕ) (k : Kind) → printed_texts name (kind_field k) ≡ []
kind_no_texts name Empty = refl
kind_no_texts name _ = refl

pub constraint_back : (w : Written) (c : Constraint) (t : Tree) → IsReadableConstraint w.closed c → Shows w (printed_constraint c) t → read_constraint w t ≡ c
unfolding use_of
constraint_back w c t r s =
    let a = constraint_admitted w.closed c r in
    let name : readings.texts w (codes "name") t ≡ text_list c.name = texts-shown w constraint_message [] (codes "name") (printed_constraint c) t refl a s ∙ simp (printed, kind_no_texts) in
    let enforcement : readings.numbers w (codes "enforcement_literal") t ≡ c.enforcement = numbers-shown w constraint_message [] (codes "enforcement_literal") Int32 (printed_constraint c) t refl a s ∙ simp (printed, kind_no_numbers) in
    let named = behind_name w c.name _ t s in
    let behind = behind_literals w c.enforcement (followed_by (kind_field c.kind) empty) named.rest named.shows in
    let kind : first_or Empty (given_kinds w t) ≡ c.kind = ap (λ ks. first_or Empty ks) (named.same ∙ behind.same) ∙ kind_back w c.kind behind.rest r.kind behind.shows in
    rw (name, enforcement, kind, first_text c.name) refl
