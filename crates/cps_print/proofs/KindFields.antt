-- What a kind that was read is printed as, and how it is read again.
use Rattle.std.specs.Prelude.{if◌then◌else◌, codes}
use Rattle.std.proofs.Common.{◌≡◌, ℕ, Bool, true, false, List, [], ◌∷◌, Option, Some, None, ◌⊎◌, inl, inr, refl, sym, subst, ap, ◌∙◌}
use Rattle.cps_textproto.specs.Trees.{Tree, no_fields, field, Values}
use Rattle.cps_model.specs.declared.constraint.Kind.{Kind}
use Rattle.cps_model.specs.declared.constraint.Kind.TheVariants.{Empty, BoolOr, BoolAnd, AtMostOne, ExactlyOne, BoolXor, IntDiv, IntMod, IntProd, LinMax}
use Rattle.cps_model.specs.declared.fault.FaultName.{FaultName}
use Rattle.cps_model.specs.declared.fault.FaultName.TheVariants.{Unsupported, Repeated, TwoKinds}
use Rattle.cps_schema.specs.declared.kind.KindName.{KindName}
use Rattle.cps_schema.specs.declared.kind.KindName.TheVariants as names
use Rattle.cps_schema.specs.Written.{Written, token_text}
use Rattle.cps_schema.specs.Tables as tables
use Rattle.cps_schema.specs.Tables.{use_of, content_of, is_given, constraint_message}
use Rattle.cps_schema.specs.Kinds.{field_name, message_of, kind_named}
use Rattle.cps_schema.specs.Faults.{refused_at, name_fault, has_kind, fields_fault, values_fault}
use Rattle.cps_schema.specs.Readings.{first_or, value_messages, read_kind, kinds_of, given_kinds}
use Rattle.cps_schema.proofs.GivenKinds.{named_text, kind_use}
use Rattle.cps_print.proofs.Readable.{Each, each_append, each_map, or_none, refused_none, values_sound}
use Rattle.cps_print.proofs.KindMessages.{AsMessage, IsReadBack, literals_back, arithmetic_back, linear_back, all_diff_back, element_back, circuit_back, table_back, interval_back, no_overlap_back, cumulative_back, automaton_back, inverse_back, reservoir_back, no_overlap_2d_back}

-- a kind as a field that is not closed
pub record AsField (closed : List (List ℕ)) (k : Kind) : Type 0 where
  pub name : KindName
  pub opened : is_given closed (field_name name) ≡ false
  pub message : AsMessage (field_name name) (message_of name) (λ w t. read_kind w name t) k

kind_back : (name : KindName) → IsReadBack (field_name name) (message_of name) (λ w t. read_kind w name t)
kind_back names.BoolOr = literals_back (codes "bool_or") (λ ls. BoolOr ls) (λ ls. refl)
kind_back names.BoolAnd = literals_back (codes "bool_and") (λ ls. BoolAnd ls) (λ ls. refl)
kind_back names.AtMostOne = literals_back (codes "at_most_one") (λ ls. AtMostOne ls) (λ ls. refl)
kind_back names.ExactlyOne = literals_back (codes "exactly_one") (λ ls. ExactlyOne ls) (λ ls. refl)
kind_back names.BoolXor = literals_back (codes "bool_xor") (λ ls. BoolXor ls) (λ ls. refl)
kind_back names.IntDiv = arithmetic_back (codes "int_div") (λ target exprs. IntDiv target exprs) (λ target exprs. refl)
kind_back names.IntMod = arithmetic_back (codes "int_mod") (λ target exprs. IntMod target exprs) (λ target exprs. refl)
kind_back names.IntProd = arithmetic_back (codes "int_prod") (λ target exprs. IntProd target exprs) (λ target exprs. refl)
kind_back names.LinMax = arithmetic_back (codes "lin_max") (λ target exprs. LinMax target exprs) (λ target exprs. refl)
kind_back names.Linear = linear_back
kind_back names.AllDiff = all_diff_back
kind_back names.Element = element_back
kind_back names.Circuit = circuit_back
kind_back names.Table = table_back
kind_back names.Interval = interval_back
kind_back names.NoOverlap = no_overlap_back
kind_back names.Cumulative = cumulative_back
kind_back names.Automaton = automaton_back
kind_back names.Inverse = inverse_back
kind_back names.Reservoir = reservoir_back
kind_back names.NoOverlap2d = no_overlap_2d_back

-- the kinds that the fields of a constraint give

not_closed : (closed before : List (List ℕ)) (text : List ℕ) (k : tables.Message) → name_fault closed constraint_message before text (Some (tables.one_kind k)) ≡ None → is_given closed text ≡ false
not_closed closed before text k e = by (is_given closed text) (if is_given before text then Some Repeated else (if has_kind constraint_message before then Some TwoKinds else None)) e where
  by : (c : Bool) (other : Option FaultName) → (if c then Some Unsupported else other) ≡ None → c ≡ false
  by true other h = cc
  by false other h = refl

kinds_of_read : (w : Written) (before : List (List ℕ)) (text : List ℕ) (values : Values) → name_fault w.closed constraint_message before text (use_of constraint_message text) ≡ None → values_fault w (content_of (use_of constraint_message text)) values ≡ None → (name : Option KindName) → kind_named text ≡ name → Each (AsField w.closed) (kinds_of w name (value_messages values))
kinds_of_read w before text values clear inner None named = tt
kinds_of_read w before text values clear inner (Some name) named =
    let is = named_text text name named in
    let takes : use_of constraint_message text ≡ Some (tables.one_kind (message_of name)) = ap (λ n. use_of constraint_message n) is ∙ kind_use name in
    let free : is_given w.closed text ≡ false = not_closed w.closed before text (message_of name) (sym (ap (λ u. name_fault w.closed constraint_message before text u) takes) ∙ clear) in
    let opened : is_given w.closed (field_name name) ≡ false = subst (λ n. is_given w.closed n ≡ false) is free in
    let clean : values_fault w (Some (tables.message (message_of name))) values ≡ None = sym (ap (λ u. values_fault w (content_of u) values) takes) ∙ inner in
    each_map (λ t. fields_fault w (message_of name) [] t ≡ None) (AsField w.closed) (read_kind w name) (λ t e. record { name = name; opened = opened; message = kind_back name w t e })
    (value_messages values) (values_sound w (message_of name) values clean)

kinds_read : (w : Written) (before : List (List ℕ)) (t : Tree) → fields_fault w constraint_message before t ≡ None → Each (AsField w.closed) (given_kinds w t)
kinds_read w before no_fields e = tt
kinds_read w before (field token list values rest) e =
    let name = token_text w token in
    let parts = or_none _ _ e in
    let inner = or_none (values_fault w (content_of (use_of constraint_message name)) values) _ parts.1 in
    let own = or_none (refused_at token (name_fault w.closed constraint_message before name (use_of constraint_message name))) _ parts.0 in
    let clear = refused_none token _ own.0 in
    each_append (AsField w.closed) (kinds_of w (kind_named name) (value_messages values)) (given_kinds w rest)
    (kinds_of_read w before name values clear inner.0 (kind_named name) refl) (kinds_read w (name ∷ before) rest inner.1)

first_kind : (closed : List (List ℕ)) (ks : List Kind) → Each (AsField closed) ks → (first_or Empty ks ≡ Empty) ⊎ AsField closed (first_or Empty ks)
first_kind closed [] e = inl refl
first_kind closed (k ∷ ks) e = inr e.0

-- a kind that was read is none, or a field
abbrev pub IsReadableKind : List (List ℕ) → Kind → Type 0
IsReadableKind closed k = (k ≡ Empty) ⊎ AsField closed k

pub kind_readable : (w : Written) (t : Tree) → fields_fault w constraint_message [] t ≡ None → IsReadableKind w.closed (first_or Empty (given_kinds w t))
kind_readable w t e = first_kind w.closed (given_kinds w t) (kinds_read w [] t e)
