-- The kinds of a model that was read are open.
use Rattle.std.specs.Option.{option_or}
use Rattle.std.specs.List.{list_any}
use Rattle.std.specs.Str.{bytes_eq}
use Rattle.std.proofs.lemmas.Slice.Eq.{bytes_eq-Decides}
use Rattle.std.proofs.lemmas.List.Elements.{All-nil, All-cons, All-append, All-map}
use Rattle.std.proofs.Common.{◌≡◌, ℕ, Bool, true, false, if◌then◌else◌, List, [], ◌∷◌, ◌++◌, All, IsTrue, get_or, map, Option, Some, None, Result, Ok, Err, IfOk, codes, refl, sym, ap, ◌∙◌, arith}
use Rattle.cps_textproto.specs.Trees.{Tree, no_fields, field, Values, no_values, scalar_value, message_value}
use Rattle.cps_model.specs.declared.fault.FaultName.{FaultName}
use Rattle.cps_model.specs.declared.fault.FaultName.TheVariants.{Unsupported}
use Rattle.cps_model.specs.declared.model.CpModel.{CpModel}
use Rattle.cps_model.specs.declared.constraint.Constraint.{Constraint}
use Rattle.cps_model.specs.declared.constraint.Kind.{Kind}
use Rattle.cps_model.specs.declared.constraint.Kind.TheVariants.{Empty}
use Rattle.cps_schema.specs.declared.number.Number.TheVariants.{Int32}
use Rattle.cps_schema.specs.declared.error.SchemaError.{SchemaError}
use Rattle.cps_schema.specs.declared.kind.KindName.{KindName}
use Rattle.cps_schema.specs.declared.kind.KindName.TheVariants.{BoolOr, BoolAnd, AtMostOne, ExactlyOne, BoolXor, IntDiv, IntMod, IntProd, LinMax, Linear, AllDiff, Element, Circuit, Table, Interval, NoOverlap, Cumulative, Automaton, Inverse, Reservoir, NoOverlap2d}
use Rattle.cps_schema.specs.Written.{Written, token_text}
use Rattle.cps_schema.specs.Tables.{Message, model_message, number, closable, constraint_message, message, one_kind, use_of, content_of, is_given}
use Rattle.cps_schema.specs.Kinds.{kind_named, field_name, message_of}
use Rattle.cps_schema.specs.Faults.{refused_at, name_fault, field_fault, values_fault, fields_fault}
use Rattle.cps_schema.specs.Readings.{first_or, numbers, value_messages, messages, is_older_element, read_older_element, read_newer_element, read_kind, kinds_of, given_kinds, read_constraint, read_model, ReadsAs}
use Rattle.cps_schema.specs.Open.{is_open_name, is_open, OpenKinds, OpenAssumptions}
use Rattle.cps_schema.proofs.GivenKinds.{named_text, kind_use}

abbrev pub IsOpen : List (List ℕ) → Kind → Type 0
IsOpen closed kind = IsTrue (is_open closed kind)

-- a fault that is none

pub or_none : {X : Type 0} (a b : Option X) → option_or a b ≡ None → (a ≡ None) × (b ≡ None)
or_none None b e = (refl, e)
or_none (Some x) b e = cc

pub refused_none : (k : ℕ) (o : Option FaultName) → refused_at k o ≡ None → o ≡ None
refused_none k None e = refl
refused_none k (Some name) e = cc

not_refused : (b : Bool) (o : Option FaultName) → (if b then Some Unsupported else o) ≡ None → b ≡ false
not_refused true o e = cc
not_refused false o e = refl

-- the messages of a name have no fault where their message has none

values_clean : (w : Written) (k : Message) (values : Values) → values_fault w (Some (message k)) values ≡ None →
    All (λ (t : Tree). fields_fault w k [] t ≡ None) (value_messages values)
values_clean w k no_values e = All-nil (λ (t : Tree). fields_fault w k [] t ≡ None)
values_clean w k (scalar_value first end rest) e = cc
values_clean w k (message_value first inner rest) e =
    let parts = or_none (fields_fault w k [] inner) (values_fault w (Some (message k)) rest) e in
    All-append (λ (t : Tree). fields_fault w k [] t ≡ None) (inner ∷ []) (value_messages rest) (only inner parts.0) (values_clean w k rest parts.1)
  where
    only : (t : Tree) → fields_fault w k [] t ≡ None → All (λ (t : Tree). fields_fault w k [] t ≡ None) (t ∷ [])
    only t clean = All-cons (λ (t : Tree). fields_fault w k [] t ≡ None) t [] clean (All-nil (λ (t : Tree). fields_fault w k [] t ≡ None))

pub messages_clean : (w : Written) (m : Message) (before : List (List ℕ)) (name : List ℕ) (k : Message) (t : Tree) →
    content_of (use_of m name) ≡ Some (message k) → fields_fault w m before t ≡ None →
    All (λ (t : Tree). fields_fault w k [] t ≡ None) (messages w name t)
messages_clean w m before name k no_fields takes e = All-nil (λ (t : Tree). fields_fault w k [] t ≡ None)
messages_clean w m before name k (field token list values rest) takes e =
    let parts = or_none (field_fault w m before token list values) _ e in
    let inner = or_none (values_fault w (content_of (use_of m (token_text w token))) values) _ parts.1 in
    here (messages w name rest) inner.0 (messages_clean w m (token_text w token ∷ before) name k rest takes inner.1) (bytes_eq (token_text w token) name) refl
  where
    here : (others : List Tree) → values_fault w (content_of (use_of m (token_text w token))) values ≡ None →
        All (λ (t : Tree). fields_fault w k [] t ≡ None) others → (same : Bool) → bytes_eq (token_text w token) name ≡ same →
        All (λ (t : Tree). fields_fault w k [] t ≡ None) ((if same then value_messages values else []) ++ others)
    here others clean more true same =
        let is : token_text w token ≡ name = (bytes_eq-Decides (token_text w token) name).0 same in
        let content : content_of (use_of m (token_text w token)) ≡ Some (message k) = ap (λ n. content_of (use_of m n)) is ∙ takes in
        let own : values_fault w (Some (message k)) values ≡ None = sym (ap (λ c. values_fault w c values) content) ∙ clean in
        All-append (λ (t : Tree). fields_fault w k [] t ≡ None) (value_messages values) others (values_clean w k values own) more
    here others clean more false same = more

-- a kind that a message gives is open where its field is

open_name : (closed : List (List ℕ)) (name : List ℕ) → is_given closed name ≡ false → is_open_name closed name ≡ true
unfolding is_given
open_name closed name e = rw e refl

open_either : (closed : List (List ℕ)) (b : Bool) (k l : Kind) (r : Bool) → is_open closed k ≡ r → is_open closed l ≡ r →
    is_open closed (if b then k else l) ≡ r
open_either closed true k l r p q = p
open_either closed false k l r p q = q

own_name : (closed : List (List ℕ)) (w : Written) (kind : KindName) (t : Tree) → is_open closed (read_kind w kind t) ≡ is_open_name closed (field_name kind)
own_name closed w BoolOr t = refl
own_name closed w BoolAnd t = refl
own_name closed w AtMostOne t = refl
own_name closed w ExactlyOne t = refl
own_name closed w BoolXor t = refl
own_name closed w IntDiv t = refl
own_name closed w IntMod t = refl
own_name closed w IntProd t = refl
own_name closed w LinMax t = refl
own_name closed w Linear t = refl
own_name closed w AllDiff t = refl
own_name closed w Element t = open_either closed (is_older_element w t) (read_older_element w t) (read_newer_element w t) (is_open_name closed (codes "element")) refl refl
own_name closed w Circuit t = refl
own_name closed w Table t = refl
own_name closed w Interval t = refl
own_name closed w NoOverlap t = refl
own_name closed w Cumulative t = refl
own_name closed w Automaton t = refl
own_name closed w Inverse t = refl
own_name closed w Reservoir t = refl
own_name closed w NoOverlap2d t = refl

kind_open : (w : Written) (kind : KindName) (t : Tree) → is_given w.closed (field_name kind) ≡ false → IsOpen w.closed (read_kind w kind t)
kind_open w kind t e = rw (own_name w.closed w kind t, open_name w.closed (field_name kind) e) refl

kinds_of_open : (w : Written) (before : List (List ℕ)) (text : List ℕ) (ts : List Tree) →
    name_fault w.closed constraint_message before text (use_of constraint_message text) ≡ None →
    (kind : Option KindName) → kind_named text ≡ kind → All (IsOpen w.closed) (kinds_of w kind ts)
kinds_of_open w before text ts e None named = All-nil (IsOpen w.closed)
kinds_of_open w before text ts e (Some kind) named =
    let name : text ≡ field_name kind = named_text text kind named in
    let takes : use_of constraint_message text ≡ Some (one_kind (message_of kind)) = ap (λ n. use_of constraint_message n) name ∙ kind_use kind in
    let clean : name_fault w.closed constraint_message before text (Some (one_kind (message_of kind))) ≡ None =
    sym (ap (λ u. name_fault w.closed constraint_message before text u) takes) ∙ e in
    let unclosed : is_given w.closed text ≡ false = not_refused (is_given w.closed text) _ clean in
    let own : is_given w.closed (field_name kind) ≡ false = sym (ap (λ n. is_given w.closed n) name) ∙ unclosed in
    All-map (IsOpen w.closed) (read_kind w kind) ts (λ k d lt. kind_open w kind (get_or ts k d) own)

kinds_open : (w : Written) (before : List (List ℕ)) (t : Tree) → fields_fault w constraint_message before t ≡ None →
    All (IsOpen w.closed) (given_kinds w t)
kinds_open w before no_fields e = All-nil (IsOpen w.closed)
kinds_open w before (field token list values rest) e =
    let text = token_text w token in
    let parts = or_none (field_fault w constraint_message before token list values) _ e in
    let inner = or_none (values_fault w (content_of (use_of constraint_message text)) values) _ parts.1 in
    let named = or_none (refused_at token (name_fault w.closed constraint_message before text (use_of constraint_message text))) _ parts.0 in
    let fault = refused_none token (name_fault w.closed constraint_message before text (use_of constraint_message text)) named.0 in
    All-append (IsOpen w.closed) (kinds_of w (kind_named text) (value_messages values)) (given_kinds w rest)
    (kinds_of_open w before text (value_messages values) fault (kind_named text) refl) (kinds_open w (text ∷ before) rest inner.1)

first_open : (closed : List (List ℕ)) (kinds : List Kind) → All (IsOpen closed) kinds → IsOpen closed (first_or Empty kinds)
first_open closed [] all = refl
first_open closed (kind ∷ kinds) all = all 0 kind (omega arith)

constraint_open : (w : Written) (t : Tree) → fields_fault w constraint_message [] t ≡ None → IsOpen w.closed (read_constraint w t).kind
constraint_open w t e = first_open w.closed (given_kinds w t) (kinds_open w [] t e)

constraints_clean : (w : Written) (t : Tree) → fields_fault w model_message [] t ≡ None →
    All (λ (t : Tree). fields_fault w constraint_message [] t ≡ None) (messages w (codes "constraints") t)
unfolding use_of
constraints_clean w t e = messages_clean w model_message [] (codes "constraints") constraint_message t refl e

pub model_open : (w : Written) (tree : Tree) (model : CpModel) → ReadsAs w tree model → OpenKinds w.closed model
model_open w tree model reads =
    let clean = constraints_clean w tree reads.accepted in
    let open_ones : All (λ (c : Constraint). IsTrue (is_open w.closed c.kind)) (map (read_constraint w) (messages w (codes "constraints") tree)) =
    All-map (λ (c : Constraint). IsTrue (is_open w.closed c.kind)) (read_constraint w) (messages w (codes "constraints") tree)
    (λ k d lt. constraint_open w (get_or (messages w (codes "constraints") tree) k d) (clean k d lt)) in
    rw reads.reading open_ones

pub answer_open : (w : Written) (tree : Tree) (r : Result CpModel SchemaError) → IfOk r (λ model. fields_fault w model_message [] tree ≡ None) →
    IfOk r (λ model. model ≡ read_model w tree) → IfOk r (λ model. OpenKinds w.closed model)
answer_open w tree (Ok model) accepted reading = model_open w tree model (record { accepted = accepted; reading = reading })
answer_open w tree (Err e) accepted reading = accepted

-- no assumption is read where they are closed

closed_name : (closed : List (List ℕ)) (name : List ℕ) → is_open_name closed name ≡ false → is_given closed name ≡ true
unfolding is_given
closed_name closed name e = by_test (list_any (bytes_eq name) closed) refl where
  by_test : (b : Bool) → list_any (bytes_eq name) closed ≡ b → b ≡ true
  by_test true t = refl
  by_test false t =
      let open_one : is_open_name closed name ≡ true = rw t refl in
      cc

refused_name : (b : Bool) → b ≡ true → (if b then Some Unsupported else None) ≡ None → ⊥
refused_name true e r = cc
refused_name false e r = cc

assumptions_use : use_of model_message (codes "assumptions") ≡ Some (closable (number Int32))
unfolding use_of
assumptions_use = refl

no_assumptions : (w : Written) (before : List (List ℕ)) (t : Tree) → is_given w.closed (codes "assumptions") ≡ true →
    fields_fault w model_message before t ≡ None → numbers w (codes "assumptions") t ≡ []
no_assumptions w before no_fields closed e = refl
no_assumptions w before (field token list values rest) closed e =
    let text = token_text w token in
    let parts = or_none (field_fault w model_message before token list values) _ e in
    let inner = or_none (values_fault w (content_of (use_of model_message text)) values) _ parts.1 in
    let named = or_none (refused_at token (name_fault w.closed model_message before text (use_of model_message text))) _ parts.0 in
    let fault = refused_none token (name_fault w.closed model_message before text (use_of model_message text)) named.0 in
    by_name (bytes_eq text (codes "assumptions")) refl fault (no_assumptions w (text ∷ before) rest closed inner.1)
  where
    by_name : (same : Bool) → bytes_eq (token_text w token) (codes "assumptions") ≡ same →
        name_fault w.closed model_message before (token_text w token) (use_of model_message (token_text w token)) ≡ None →
        numbers w (codes "assumptions") rest ≡ [] → numbers w (codes "assumptions") (field token list values rest) ≡ []
    by_name true t fault more =
        let name : token_text w token ≡ codes "assumptions" = (bytes_eq-Decides (token_text w token) (codes "assumptions")).0 t in
        let at : name_fault w.closed model_message before (codes "assumptions") (use_of model_message (codes "assumptions")) ≡ None =
        sym (ap (λ n. name_fault w.closed model_message before n (use_of model_message n)) name) ∙ fault in
        let clean : name_fault w.closed model_message before (codes "assumptions") (Some (closable (number Int32))) ≡ None =
        sym (ap (λ u. name_fault w.closed model_message before (codes "assumptions") u) assumptions_use) ∙ at in
        absurd (refused_name (is_given w.closed (codes "assumptions")) closed clean)
    by_name false t fault more = rw t more

pub model_assumed : (w : Written) (tree : Tree) (model : CpModel) → ReadsAs w tree model → OpenAssumptions w.closed model
model_assumed w tree model read = λ closed.
    rw read.reading (no_assumptions w [] tree (closed_name w.closed (codes "assumptions") closed) read.accepted)

pub answer_assumed : (w : Written) (tree : Tree) (r : Result CpModel SchemaError) → IfOk r (λ model. fields_fault w model_message [] tree ≡ None) →
    IfOk r (λ model. model ≡ read_model w tree) → IfOk r (λ model. OpenAssumptions w.closed model)
answer_assumed w tree (Ok model) accepted reading = model_assumed w tree model (record { accepted = accepted; reading = reading })
answer_assumed w tree (Err e) accepted reading = accepted
