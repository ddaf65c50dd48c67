-- What a model is like that a document is read as.
use Rattle.std.specs.Prelude.{map, if◌then◌else◌, codes}
use Rattle.std.specs.List.{list_all}
use Rattle.std.specs.Str.{bytes_eq, is_utf8}
use Rattle.std.specs.Option.{option_or, unwrap_or}
use Rattle.std.proofs.lemmas.Slice.Eq.{bytes_eq-Decides}
use Rattle.std.proofs.lemmas.Str.{is_utf8-from_IsUtf8, IsUtf8-nil}
use Rattle.std.proofs.lemmas.List.Folds.{list_all-append}
use Rattle.std.proofs.Common.{◌≡◌, ◌≢◌, ℕ, zero, suc, Bool, true, false, ◌&&◌, ◌⊎◌, inl, inr, ℤ, pos, negsuc, List, [], ◌∷◌, ◌++◌, Option, Some, None, is_some, refl, sym, subst, ap, ◌∙◌}
use Rattle.cps_lex.specs.declared.types.TokenKind.{TokenKind}
use Rattle.cps_textproto.specs.Trees.{Tree, no_fields, field, Values, no_values, scalar_value, message_value}
use Rattle.cps_model.specs.declared.fault.FaultName.{FaultName}
use Rattle.cps_model.specs.declared.fault.FaultName.TheVariants.{Unsupported}
use Rattle.cps_model.specs.declared.model.Variable.{Variable}
use Rattle.cps_model.specs.declared.model.Objective.{Objective}
use Rattle.cps_model.specs.declared.model.LinearExpr.{LinearExpr}
use Rattle.cps_model.specs.declared.steering.Strategy.{Strategy}
use Rattle.cps_model.specs.declared.steering.Hint.{Hint}
use Rattle.cps_schema.specs.Written.{Written, token_text, token_kind, unsigned_token, size_at, number_at}
use Rattle.cps_schema.specs.declared.number.Number.{Number}
use Rattle.cps_schema.specs.declared.number.Number.TheVariants.{Int64, Int32, Exact}
use Rattle.cps_schema.specs.Numbers.{fits, misfit, token_fault, kind_fault, number_fault}
use Rattle.cps_schema.specs.Tables as tables
use Rattle.cps_schema.specs.Tables.{use_of, content_of, is_given, model_message, variable_message, constraint_message, literals_message, linear_message, objective_message, strategy_message, expression_message, hint_message}
use Rattle.cps_schema.specs.Texts.{scalar_tokens, is_string, joined, text_at}
use Rattle.cps_schema.specs.Faults.{refused_at, name_fault, text_fault, fields_fault, values_fault}
use Rattle.cps_schema.specs.Readings as readings
use Rattle.cps_schema.specs.Readings.{first_or, first_of, value_numbers, value_texts, value_messages, messages, read_name, read_variable, read_literals, read_linear, read_kind, kinds_of, given_kinds, read_constraint, scaling_of, read_objective, read_expression, read_strategy, read_hint, read_model}
use Rattle.cps_model.specs.Values.{reference_expression}
use Rattle.cps_print.proofs.Digits.{and_true}

abbrev pub Each : {X : Type 0} → (X → Type 0) → List X → Type 0
Each P [] = Unit {0}
Each P (x ∷ xs) = P x × Each P xs

abbrev pub AreFit : Number → List ℤ → Type 0
AreFit type ns = list_all (fits type) ns ≡ true

-- a text that can stand in quotes
abbrev pub IsReadableText : List ℕ → Type 0
IsReadableText bytes = is_utf8 bytes ≡ true

pub record IsReadableVariable (v : Variable) : Type 0 where
  pub name : IsReadableText v.name
  pub domain : AreFit Int64 v.domain

pub record IsReadableObjective (o : Objective) : Type 0 where
  pub vars : AreFit Int32 o.vars
  pub coeffs : AreFit Int64 o.coeffs
  pub offset : fits Exact o.offset ≡ true
  pub scaling : fits Exact o.scaling ≡ true
  pub scaled : o.scaling ≢ pos 0
  pub domain : AreFit Int64 o.domain

pub record IsReadableExpression (e : LinearExpr) : Type 0 where
  pub vars : AreFit Int32 e.vars
  pub coeffs : AreFit Int64 e.coeffs
  pub offset : fits Int64 e.offset ≡ true

abbrev pub IsReadableStrategy : Strategy → Type 0
IsReadableStrategy s = Each IsReadableExpression s.exprs

pub record IsReadableHint (h : Hint) : Type 0 where
  pub vars : AreFit Int32 h.vars
  pub values : AreFit Int64 h.values

pub each_append : {X : Type 0} (P : X → Type 0) (xs ys : List X) → Each P xs → Each P ys → Each P (xs ++ ys)
each_append P [] ys p q = q
each_append P (x ∷ xs) ys p q = (p.0, each_append P xs ys p.1 q)

pub each_map : {X Y : Type 0} (P : X → Type 0) (Q : Y → Type 0) (f : X → Y) → ((x : X) → P x → Q (f x)) → (xs : List X) → Each P xs → Each Q (map f xs)
each_map P Q f h [] p = tt
each_map P Q f h (x ∷ xs) p = (h x p.0, each_map P Q f h xs p.1)

pub or_none : {X : Type 0} (a b : Option X) → option_or a b ≡ None → (a ≡ None) × (b ≡ None)
or_none None b e = (refl, e)
or_none (Some x) b e = cc

pub refused_none : (k : ℕ) (o : Option FaultName) → refused_at k o ≡ None → o ≡ None
refused_none k None e = refl
refused_none k (Some name) e = cc

fit_of : (fit : Bool) (name : FaultName) → (if fit then None else Some name) ≡ None → fit ≡ true
fit_of true name e = refl
fit_of false name e = cc

kind_fit : (type : Number) (fit : Bool) (kind : Option TokenKind) → kind_fault type fit kind ≡ None → fit ≡ true
kind_fit type fit (Some kind) e = fit_of fit (misfit type) (or_none (token_fault type kind) _ e).1
kind_fit type fit None e = cc

number_fit : (w : Written) (type : Number) (first : ℕ) → number_fault w type first ≡ None → fits type (number_at w first) ≡ true
unfolding number_fault
number_fit w type first e =
    let fit = kind_fit type (is_some (size_at w first) && fits type (number_at w first)) (token_kind w (unsigned_token w first)) e in
    (and_true (is_some (size_at w first)) (fits type (number_at w first)) fit).1

pub both_true : (a b : Bool) → a ≡ true → b ≡ true → (a && b) ≡ true
both_true a b p q = rw (p, q) refl

values_fit : (w : Written) (type : Number) (values : Values) → values_fault w (Some (tables.number type)) values ≡ None → AreFit type (value_numbers w values)
values_fit w type no_values e = refl
values_fit w type (scalar_value first end rest) e =
    let parts = or_none (refused_at first (number_fault w type first)) _ e in
    both_true _ _ (number_fit w type first (refused_none first (number_fault w type first) parts.0)) (values_fit w type rest parts.1)
values_fit w type (message_value first inner rest) e = cc

pub values_sound : (w : Written) (k : tables.Message) (values : Values) → values_fault w (Some (tables.message k)) values ≡ None → Each (λ t. fields_fault w k [] t ≡ None) (value_messages values)
values_sound w k no_values e = tt
values_sound w k (scalar_value first end rest) e = cc
values_sound w k (message_value first inner rest) e =
    let parts = or_none (fields_fault w k [] inner) _ e in
    (parts.0, values_sound w k rest parts.1)

same_name : (a b : List ℕ) → bytes_eq a b ≡ true → a ≡ b
same_name a b e = (bytes_eq-Decides a b).0 e

-- the numbers of a name fit, where no field is refused
pub numbers_fit : (w : Written) (m : tables.Message) (before : List (List ℕ)) (name : List ℕ) (type : Number) (t : Tree) → content_of (use_of m name) ≡ Some (tables.number type) → fields_fault w m before t ≡ None → AreFit type (readings.numbers w name t)
numbers_fit w m before name type no_fields takes e = refl
numbers_fit w m before name type (field token list values rest) takes e =
    let parts = or_none _ _ e in
    let inner = or_none (values_fault w (content_of (use_of m (token_text w token))) values) _ parts.1 in
    here w m name type token values (readings.numbers w name rest) takes inner.0
    (numbers_fit w m (token_text w token ∷ before) name type rest takes inner.1) (bytes_eq (token_text w token) name) refl
  where
    here : (w : Written) (m : tables.Message) (name : List ℕ) (type : Number) (token : ℕ) (values : Values) (others : List ℤ) → content_of (use_of m name) ≡ Some (tables.number type) → values_fault w (content_of (use_of m (token_text w token))) values ≡ None → AreFit type others → (same : Bool) → bytes_eq (token_text w token) name ≡ same → AreFit type ((if same then value_numbers w values else []) ++ others)
    here w m name type token values others takes e rest true same =
        let is = same_name (token_text w token) name same in
        let content : content_of (use_of m (token_text w token)) ≡ Some (tables.number type) = ap (λ n. content_of (use_of m n)) is ∙ takes in
        let clean : values_fault w (Some (tables.number type)) values ≡ None = sym (ap (λ c. values_fault w c values) content) ∙ e in
        list_all-append (fits type) (value_numbers w values) others ∙ both_true _ _ (values_fit w type values clean) rest
    here w m name type token values others takes e rest false same = rest

-- there are none, or the field is not closed
pub none_or_open : (w : Written) (m : tables.Message) (before : List (List ℕ)) (name : List ℕ) (type : Number) (t : Tree) → use_of m name ≡ Some (tables.closable (tables.number type)) → fields_fault w m before t ≡ None → (readings.numbers w name t ≡ []) ⊎ (is_given w.closed name ≡ false)
none_or_open w m before name type no_fields takes e = inl refl
none_or_open w m before name type (field token list values rest) takes e =
    let parts = or_none _ _ e in
    let inner = or_none (values_fault w (content_of (use_of m (token_text w token))) values) _ parts.1 in
    let own = or_none (refused_at token (name_fault w.closed m before (token_text w token) (use_of m (token_text w token)))) _ parts.0 in
    here w m before name type token values (readings.numbers w name rest) takes (refused_none token _ own.0)
    (none_or_open w m (token_text w token ∷ before) name type rest takes inner.1) (bytes_eq (token_text w token) name) refl
  where
    opened : (closed : Bool) → (if closed then Some Unsupported else None) ≡ None → closed ≡ false
    opened true e = cc
    opened false e = refl

    here : (w : Written) (m : tables.Message) (before : List (List ℕ)) (name : List ℕ) (type : Number) (token : ℕ) (values : Values) (others : List ℤ) → use_of m name ≡ Some (tables.closable (tables.number type)) → name_fault w.closed m before (token_text w token) (use_of m (token_text w token)) ≡ None → (others ≡ []) ⊎ (is_given w.closed name ≡ false) → (same : Bool) → bytes_eq (token_text w token) name ≡ same → ((if same then value_numbers w values else []) ++ others ≡ []) ⊎ (is_given w.closed name ≡ false)
    here w m before name type token values others takes e rest true same =
        let is = same_name (token_text w token) name same in
        let clear : name_fault w.closed m before name (use_of m name) ≡ None = subst (λ n. name_fault w.closed m before n (use_of m n) ≡ None) is e in
        let own : name_fault w.closed m before name (Some (tables.closable (tables.number type))) ≡ None = subst (λ u. name_fault w.closed m before name u ≡ None) takes clear in
        inr (opened (is_given w.closed name) own)
    here w m before name type token values others takes e rest false same = rest

-- and the messages of a name have no fault
pub messages_sound : (w : Written) (m : tables.Message) (before : List (List ℕ)) (name : List ℕ) (k : tables.Message) (t : Tree) → content_of (use_of m name) ≡ Some (tables.message k) → fields_fault w m before t ≡ None → Each (λ t. fields_fault w k [] t ≡ None) (messages w name t)
messages_sound w m before name k no_fields takes e = tt
messages_sound w m before name k (field token list values rest) takes e =
    let parts = or_none _ _ e in
    let inner = or_none (values_fault w (content_of (use_of m (token_text w token))) values) _ parts.1 in
    here w m name k token values (messages w name rest) takes inner.0
    (messages_sound w m (token_text w token ∷ before) name k rest takes inner.1) (bytes_eq (token_text w token) name) refl
  where
    here : (w : Written) (m : tables.Message) (name : List ℕ) (k : tables.Message) (token : ℕ) (values : Values) (others : List Tree) → content_of (use_of m name) ≡ Some (tables.message k) → values_fault w (content_of (use_of m (token_text w token))) values ≡ None → Each (λ t. fields_fault w k [] t ≡ None) others → (same : Bool) → bytes_eq (token_text w token) name ≡ same → Each (λ t. fields_fault w k [] t ≡ None) ((if same then value_messages values else []) ++ others)
    here w m name k token values others takes e rest true same =
        let is = same_name (token_text w token) name same in
        let content : content_of (use_of m (token_text w token)) ≡ Some (tables.message k) = ap (λ n. content_of (use_of m n)) is ∙ takes in
        let clean : values_fault w (Some (tables.message k)) values ≡ None = sym (ap (λ c. values_fault w c values) content) ∙ e in
        each_append (λ t. fields_fault w k [] t ≡ None) (value_messages values) others (values_sound w k values clean) rest
    here w m name k token values others takes e rest false same = rest

-- and the texts of a name are UTF-8

text_utf8 : (w : Written) (first end : ℕ) → text_fault (text_at w first end) ≡ None → IsReadableText (unwrap_or (text_at w first end) [])
unfolding text_at
text_utf8 w first end e = by (list_all is_string (scalar_tokens w first end)) (is_utf8 (joined w first end)) refl e where
  by : (strings utf8 : Bool) → is_utf8 (joined w first end) ≡ utf8 → text_fault (if strings && utf8 then Some (joined w first end) else None) ≡ None → IsReadableText (unwrap_or (if strings && utf8 then Some (joined w first end) else None) [])
  by true true is e = is
  by true false is e = cc
  by false utf8 is e = cc

values_utf8 : (w : Written) (values : Values) → values_fault w (Some tables.text) values ≡ None → Each IsReadableText (value_texts w values)
values_utf8 w no_values e = tt
values_utf8 w (scalar_value first end rest) e =
    let parts = or_none (refused_at first (text_fault (text_at w first end))) _ e in
    (text_utf8 w first end (refused_none first _ parts.0), values_utf8 w rest parts.1)
values_utf8 w (message_value first inner rest) e = cc

pub texts_utf8 : (w : Written) (m : tables.Message) (before : List (List ℕ)) (name : List ℕ) (t : Tree) → content_of (use_of m name) ≡ Some tables.text → fields_fault w m before t ≡ None → Each IsReadableText (readings.texts w name t)
texts_utf8 w m before name no_fields takes e = tt
texts_utf8 w m before name (field token list values rest) takes e =
    let parts = or_none _ _ e in
    let inner = or_none (values_fault w (content_of (use_of m (token_text w token))) values) _ parts.1 in
    here w m name token values (readings.texts w name rest) takes inner.0
    (texts_utf8 w m (token_text w token ∷ before) name rest takes inner.1) (bytes_eq (token_text w token) name) refl
  where
    here : (w : Written) (m : tables.Message) (name : List ℕ) (token : ℕ) (values : Values) (others : List (List ℕ)) → content_of (use_of m name) ≡ Some tables.text → values_fault w (content_of (use_of m (token_text w token))) values ≡ None → Each IsReadableText others → (same : Bool) → bytes_eq (token_text w token) name ≡ same → Each IsReadableText ((if same then value_texts w values else []) ++ others)
    here w m name token values others takes e rest true same =
        let is = same_name (token_text w token) name same in
        let content : content_of (use_of m (token_text w token)) ≡ Some tables.text = ap (λ n. content_of (use_of m n)) is ∙ takes in
        let clean : values_fault w (Some tables.text) values ≡ None = sym (ap (λ c. values_fault w c values) content) ∙ e in
        each_append IsReadableText (value_texts w values) others (values_utf8 w values clean) rest
    here w m name token values others takes e rest false same = rest

pub first_text : (ts : List (List ℕ)) → Each IsReadableText ts → IsReadableText (first_or [] ts)
first_text [] e = is_utf8-from_IsUtf8 [] IsUtf8-nil
first_text (t ∷ ts) e = e.0

pub name_utf8 : (w : Written) (m : tables.Message) (t : Tree) → content_of (use_of m (codes "name")) ≡ Some tables.text → fields_fault w m [] t ≡ None → IsReadableText (read_name w t)
name_utf8 w m t takes e = first_text _ (texts_utf8 w m [] (codes "name") t takes e)

-- what each message is read as

pub variable_readable : (w : Written) (t : Tree) → fields_fault w variable_message [] t ≡ None → IsReadableVariable (read_variable w t)
unfolding use_of
variable_readable w t e = record { name = name_utf8 w variable_message t refl e; domain = numbers_fit w variable_message [] (codes "domain") Int64 t refl e }

pub zero_fits : (type : Number) → fits type (pos 0) ≡ true
unfolding fits
zero_fits Int64 = refl
zero_fits Int32 = refl
zero_fits Exact = refl

pub first_fit : (type : Number) (ns : List ℤ) → AreFit type ns → fits type (first_or (pos 0) ns) ≡ true
first_fit type [] e = zero_fits type
first_fit type (n ∷ ns) e = (and_true (fits type n) (list_all (fits type) ns) e).0

scaling_fit : (z : ℤ) → fits Exact z ≡ true → fits Exact (scaling_of z) ≡ true
unfolding fits
scaling_fit (pos zero) e = refl
scaling_fit (pos (suc n)) e = e
scaling_fit (negsuc n) e = e

scaling_nonzero : (z : ℤ) → scaling_of z ≢ pos 0
scaling_nonzero (pos zero) = λ e. cc
scaling_nonzero (pos (suc n)) = λ e. cc
scaling_nonzero (negsuc n) = λ e. cc

pub objective_readable : (w : Written) (t : Tree) → fields_fault w objective_message [] t ≡ None → IsReadableObjective (read_objective w t)
unfolding use_of
objective_readable w t e = record {
  vars = numbers_fit w objective_message [] (codes "vars") Int32 t refl e;
  coeffs = numbers_fit w objective_message [] (codes "coeffs") Int64 t refl e;
  offset = first_fit Exact _ (numbers_fit w objective_message [] (codes "offset") Exact t refl e);
  scaling = scaling_fit _ (first_fit Exact _ (numbers_fit w objective_message [] (codes "scaling_factor") Exact t refl e));
  scaled = scaling_nonzero _;
  domain = numbers_fit w objective_message [] (codes "domain") Int64 t refl e;
}

pub expression_readable : (w : Written) (t : Tree) → fields_fault w expression_message [] t ≡ None → IsReadableExpression (read_expression w t)
unfolding use_of
expression_readable w t e = record {
  vars = numbers_fit w expression_message [] (codes "vars") Int32 t refl e;
  coeffs = numbers_fit w expression_message [] (codes "coeffs") Int64 t refl e;
  offset = first_fit Int64 _ (numbers_fit w expression_message [] (codes "offset") Int64 t refl e);
}

pub reference_readable : (r : ℤ) → fits Int32 r ≡ true → IsReadableExpression (reference_expression r)
unfolding fits
reference_readable r e = record { vars = both_true _ _ e refl; coeffs = refl; offset = refl }

pub references_readable : (rs : List ℤ) → AreFit Int32 rs → Each IsReadableExpression (map reference_expression rs)
references_readable [] e = tt
references_readable (r ∷ rs) e =
    let both = and_true (fits Int32 r) (list_all (fits Int32) rs) e in
    (reference_readable r both.0, references_readable rs both.1)

pub strategy_readable : (w : Written) (t : Tree) → fields_fault w strategy_message [] t ≡ None → IsReadableStrategy (read_strategy w t)
unfolding use_of
strategy_readable w t e =
    each_append IsReadableExpression _ _
    (each_map (λ t. fields_fault w expression_message [] t ≡ None) IsReadableExpression (read_expression w) (expression_readable w) (messages w (codes "exprs") t) (messages_sound w strategy_message [] (codes "exprs") expression_message t refl e))
    (references_readable _ (numbers_fit w strategy_message [] (codes "variables") Int32 t refl e))

pub hint_readable : (w : Written) (t : Tree) → fields_fault w hint_message [] t ≡ None → IsReadableHint (read_hint w t)
unfolding use_of
hint_readable w t e = record {
  vars = numbers_fit w hint_message [] (codes "vars") Int32 t refl e;
  values = numbers_fit w hint_message [] (codes "values") Int64 t refl e;
}
