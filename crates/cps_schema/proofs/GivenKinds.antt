-- The kinds among a constraint's fields.
use Rattle.std.specs.Option.{option_to_list}
use Rattle.std.specs.List.{find}
use Rattle.std.specs.Str.{bytes_eq}
use Rattle.std.proofs.lemmas.Slice.Eq.{bytes_eq-Decides}
use Rattle.std.proofs.Common.{◌≡◌, ℕ, ℤ, List, [], ◌∷◌, ◌++◌, append_assoc, ◌||◌, Bool, true, false, cond, if◌then◌else◌, map, Option, Some, None, is_some, Result, Ok, Err, OnOk, IfErr, codes, refl, sym, ap, ◌∙◌}
use Rattle.cps_textproto.specs.declared.tree.Field.{Field}
use Rattle.cps_textproto.specs.Trees.{Tree, values_of}
use Rattle.cps_model.specs.declared.constraint.Constraint.{Constraint}
use Rattle.cps_model.specs.declared.constraint.Kind.{Kind}
use Rattle.cps_model.specs.declared.constraint.Kind.TheVariants.{Empty}
use Rattle.cps_schema.specs.declared.error.SchemaError.{SchemaError}
use Rattle.cps_schema.specs.declared.constraint.ConstraintParts.{ConstraintParts}
use Rattle.cps_schema.specs.declared.kind.GivenKind.{GivenKind}
use Rattle.cps_schema.specs.declared.kind.KindName.{KindName}
use Rattle.cps_schema.specs.declared.kind.KindName.TheVariants.{BoolOr, BoolAnd, AtMostOne, ExactlyOne, BoolXor, IntDiv, IntMod, IntProd, LinMax, Linear, AllDiff, Element, Circuit, Table, Interval, NoOverlap, Cumulative, Automaton, Inverse, Reservoir, NoOverlap2d}
use Rattle.cps_schema.specs.Written.{Written, token_text}
use Rattle.cps_schema.specs.Tables.{Message, constraint_message, Use, one_kind, use_in, table_of, use_of}
use Rattle.cps_schema.specs.Kinds.{kinds_read, field_name, message_of, kind_named}
use Rattle.cps_schema.specs.Faults.{is_kind, has_kind}
use Rattle.cps_schema.specs.Readings.{first_or, numbers, texts, value_messages, read_kind, kinds_of, given_kinds}
use Rattle.cps_schema.specs.Steps.{field_then, Passes, Stops, KindPasses, KindStops}
use Rattle.cps_schema.specs.Parts.{kind_list, constraint_from, is_given_as, IsKindGiven, IsConstraintGiven}
use Rattle.cps_schema.proofs.Steps.{next_given}

-- one name more
next_kind : (m : Message) (given : List ℕ) (before : List (List ℕ)) → has_kind m (given ∷ before) ≡ (is_kind (use_of m given) || has_kind m before)
unfolding has_kind
next_kind m given before = refl

-- the first that passes a test passes it
found : (test : KindName → Bool) (kinds : List KindName) (kind : KindName) → find test kinds ≡ Some kind → test kind ≡ true
found test [] kind e = cc
found test (k ∷ kinds) kind e = by_test (test k) refl (λ s. found test kinds kind s) e where
  by_test : (b : Bool) → test k ≡ b → (find test kinds ≡ Some kind → test kind ≡ true) → cond b (Some k) (find test kinds) ≡ Some kind → test kind ≡ true
  by_test true t more s = cc
  by_test false t more s = more s

-- a name that is a kind's
pub named_text : (text : List ℕ) (kind : KindName) → kind_named text ≡ Some kind → text ≡ field_name kind
named_text text kind e = (bytes_eq-Decides text (field_name kind)).0 (found (λ k. bytes_eq text (field_name k)) kinds_read kind e)

pub kind_use : (kind : KindName) → use_of constraint_message (field_name kind) ≡ Some (one_kind (message_of kind))
unfolding use_of
kind_use BoolOr = refl
kind_use BoolAnd = refl
kind_use AtMostOne = refl
kind_use ExactlyOne = refl
kind_use BoolXor = refl
kind_use IntDiv = refl
kind_use IntMod = refl
kind_use IntProd = refl
kind_use LinMax = refl
kind_use Linear = refl
kind_use AllDiff = refl
kind_use Element = refl
kind_use Circuit = refl
kind_use Table = refl
kind_use Interval = refl
kind_use NoOverlap = refl
kind_use Cumulative = refl
kind_use Automaton = refl
kind_use Inverse = refl
kind_use Reservoir = refl
kind_use NoOverlap2d = refl

enforcement_is_no_kind : is_kind (use_of constraint_message (codes "enforcement_literal")) ≡ false
unfolding use_of
enforcement_is_no_kind = refl

name_is_no_kind : is_kind (use_of constraint_message (codes "name")) ≡ false
unfolding use_of
name_is_no_kind = refl

name_apart : (kind : KindName) → bytes_eq (field_name kind) (codes "name") ≡ false
name_apart BoolOr = refl
name_apart BoolAnd = refl
name_apart AtMostOne = refl
name_apart ExactlyOne = refl
name_apart BoolXor = refl
name_apart IntDiv = refl
name_apart IntMod = refl
name_apart IntProd = refl
name_apart LinMax = refl
name_apart Linear = refl
name_apart AllDiff = refl
name_apart Element = refl
name_apart Circuit = refl
name_apart Table = refl
name_apart Interval = refl
name_apart NoOverlap = refl
name_apart Cumulative = refl
name_apart Automaton = refl
name_apart Inverse = refl
name_apart Reservoir = refl
name_apart NoOverlap2d = refl

apart_name : (kind : KindName) → bytes_eq (codes "name") (field_name kind) ≡ false
apart_name BoolOr = refl
apart_name BoolAnd = refl
apart_name AtMostOne = refl
apart_name ExactlyOne = refl
apart_name BoolXor = refl
apart_name IntDiv = refl
apart_name IntMod = refl
apart_name IntProd = refl
apart_name LinMax = refl
apart_name Linear = refl
apart_name AllDiff = refl
apart_name Element = refl
apart_name Circuit = refl
apart_name Table = refl
apart_name Interval = refl
apart_name NoOverlap = refl
apart_name Cumulative = refl
apart_name Automaton = refl
apart_name Inverse = refl
apart_name Reservoir = refl
apart_name NoOverlap2d = refl

enforcement_apart : (kind : KindName) → bytes_eq (field_name kind) (codes "enforcement_literal") ≡ false
enforcement_apart BoolOr = refl
enforcement_apart BoolAnd = refl
enforcement_apart AtMostOne = refl
enforcement_apart ExactlyOne = refl
enforcement_apart BoolXor = refl
enforcement_apart IntDiv = refl
enforcement_apart IntMod = refl
enforcement_apart IntProd = refl
enforcement_apart LinMax = refl
enforcement_apart Linear = refl
enforcement_apart AllDiff = refl
enforcement_apart Element = refl
enforcement_apart Circuit = refl
enforcement_apart Table = refl
enforcement_apart Interval = refl
enforcement_apart NoOverlap = refl
enforcement_apart Cumulative = refl
enforcement_apart Automaton = refl
enforcement_apart Inverse = refl
enforcement_apart Reservoir = refl
enforcement_apart NoOverlap2d = refl

-- the line of a kind in the table
abbrev line_of : KindName → List ℕ × Use
line_of kind = (field_name kind, one_kind (message_of kind))

no_line : (text : List ℕ) (kinds : List KindName) → find (λ kind. bytes_eq text (field_name kind)) kinds ≡ None → use_in (map line_of kinds) text ≡ None
no_line text [] e = refl
no_line text (k ∷ kinds) e = by_test (bytes_eq text (field_name k)) (λ s. no_line text kinds s) e where
  by_test : (b : Bool) → (find (λ kind. bytes_eq text (field_name kind)) kinds ≡ None → use_in (map line_of kinds) text ≡ None) →
      cond b (Some k) (find (λ kind. bytes_eq text (field_name kind)) kinds) ≡ None →
      (if b then Some (one_kind (message_of k)) else use_in (map line_of kinds) text) ≡ None
  by_test true more s = cc
  by_test false more s = more s

pub no_constraint_field : (text : List ℕ) → bytes_eq text (codes "name") ≡ false → bytes_eq text (codes "enforcement_literal") ≡ false →
    kind_named text ≡ None → use_in (table_of constraint_message) text ≡ None
no_constraint_field text n a none = rw (n, a) (no_line text kinds_read none)

pub enforcement_given : (given : Option GivenKind) (text : List ℕ) → text ≡ codes "enforcement_literal" →
    (before : List (List ℕ)) → IsKindGiven given before → IsKindGiven given (text ∷ before)
enforcement_given given text e before kept = rw e (record {
  name_given = λ name. next_given (field_name name) (codes "enforcement_literal") before ∙ rw (enforcement_apart name) (kept.name_given name);
  kind_given = next_kind constraint_message (codes "enforcement_literal") before ∙ rw enforcement_is_no_kind kept.kind_given;
})

-- a name is no kind
pub kind_unnamed : (given : Option GivenKind) (text : List ℕ) → text ≡ codes "name" →
    (before : List (List ℕ)) → IsKindGiven given before → IsKindGiven given (text ∷ before)
kind_unnamed given text e before kept = rw e (record {
  name_given = λ name. next_given (field_name name) (codes "name") before ∙ rw (name_apart name) (kept.name_given name);
  kind_given = next_kind constraint_message (codes "name") before ∙ rw name_is_no_kind kept.kind_given;
})

pub constraint_kept : (old new : ConstraintParts) → new.name ≡ old.name → new.given ≡ old.given → (text : List ℕ) → text ≡ codes "enforcement_literal" →
    (before : List (List ℕ)) → IsConstraintGiven old before → IsConstraintGiven new (text ∷ before)
constraint_kept old new named same text e before given = record {
  name = rw (e, named) (next_given (codes "name") (codes "enforcement_literal") before ∙ given.name);
  kind = rw same (enforcement_given old.given text e before given.kind);
}

pub name_given_first : (old new : ConstraintParts) → new.given ≡ old.given → is_some new.name ≡ true → (text : List ℕ) → text ≡ codes "name" →
    (before : List (List ℕ)) → IsConstraintGiven old before → IsConstraintGiven new (text ∷ before)
name_given_first old new same some text e before given = record {
  name = rw (e, some) (next_given (codes "name") (codes "name") before);
  kind = rw same (kind_unnamed old.given text e before given.kind);
}

no_name : (given : Option GivenKind) → is_some given ≡ false → (name : KindName) → is_given_as given name ≡ false
no_name None e name = refl
no_name (Some given) e name = cc

-- the kind that was read has one name
one_name : (given : Option GivenKind) (name : KindName) → is_given_as given name ≡ true →
    (is_some given ≡ true) × ((other : KindName) → bytes_eq (field_name other) (field_name name) ≡ is_given_as given other)
one_name None name e = cc
one_name (Some given) name e =
    (refl, λ other. ap (λ text. bytes_eq (field_name other) text) ((bytes_eq-Decides (field_name name) (field_name given.name)).0 e))

or_false : (b : Bool) → (b || false) ≡ b
or_false true = refl
or_false false = refl

pub field_passes : (w : Written) (f : Field) (kind : KindName) (r : Result (Unit {0}) SchemaError) (old new : Option GivenKind) →
    kind_named (token_text w f.name) ≡ Some kind → OnOk r (KindPasses w f (message_of kind) (is_given_as old kind) (is_some old)) →
    OnOk r (is_some old ≡ false) → OnOk r (is_given_as new kind ≡ true) →
    OnOk r ((before : List (List ℕ)) → IsKindGiven old before →
    Passes w constraint_message before f × IsKindGiven new (token_text w f.name ∷ before))
field_passes w f kind (Ok x) old new named passes none set = λ before given.
    let name = named_text (token_text w f.name) kind named in
    let some = one_name new kind set in (
      passes constraint_message before (rw name (kind_use kind)) (rw name (given.name_given kind)) given.kind_given,
      rw name (record {
        name_given = λ other.
            next_given (field_name other) (field_name kind) before
            ∙ rw (given.name_given other, no_name old none other, or_false (bytes_eq (field_name other) (field_name kind))) (some.1 other);
        kind_given = next_kind constraint_message (field_name kind) before ∙ rw (kind_use kind, some.0) refl;
      }),
    )
field_passes w f kind (Err e) old new named passes none set = passes

pub field_stops : (w : Written) (f : Field) (kind : KindName) (r : Result (Unit {0}) SchemaError) (old : Option GivenKind) →
    kind_named (token_text w f.name) ≡ Some kind → IfErr r (KindStops w f (message_of kind) (is_given_as old kind) (is_some old)) →
    IfErr r (λ e. (before : List (List ℕ)) → IsKindGiven old before → Stops w constraint_message before f e)
field_stops w f kind (Ok x) old named stops = stops
field_stops w f kind (Err e) old named stops = λ before given.
    let name = named_text (token_text w f.name) kind named in
    stops constraint_message before (rw name (kind_use kind)) (rw name (given.name_given kind)) given.kind_given

pub kind_field_passes : (w : Written) (f : Field) (kind : KindName) (r : Result (Unit {0}) SchemaError) (old new : ConstraintParts) → new.name ≡ old.name →
    kind_named (token_text w f.name) ≡ Some kind → OnOk r (KindPasses w f (message_of kind) (is_given_as old.given kind) (is_some old.given)) →
    OnOk r (is_some old.given ≡ false) → OnOk r (is_given_as new.given kind ≡ true) →
    OnOk r ((before : List (List ℕ)) → IsConstraintGiven old before →
    Passes w constraint_message before f × IsConstraintGiven new (token_text w f.name ∷ before))
kind_field_passes w f kind (Ok x) old new same named passes none set = λ before given.
    let kept = field_passes w f kind (Ok x) old.given new.given named passes none set before given.kind in
    let name = named_text (token_text w f.name) kind named in (
      kept.0,
      record {
        name = rw name (next_given (codes "name") (field_name kind) before ∙ rw (apart_name kind, same) given.name);
        kind = kept.1;
      },
    )
kind_field_passes w f kind (Err e) old new same named passes none set = passes

pub kind_field_stops : (w : Written) (f : Field) (kind : KindName) (r : Result (Unit {0}) SchemaError) (old : ConstraintParts) →
    kind_named (token_text w f.name) ≡ Some kind → IfErr r (KindStops w f (message_of kind) (is_given_as old.given kind) (is_some old.given)) →
    IfErr r (λ e. (before : List (List ℕ)) → IsConstraintGiven old before → Stops w constraint_message before f e)
kind_field_stops w f kind (Ok x) old named stops = stops
kind_field_stops w f kind (Err e) old named stops = λ before given. field_stops w f kind (Err e) old.given named stops before given.kind

other_texts : (w : Written) (f : Field) (rest : Tree) (name : List ℕ) → bytes_eq (token_text w f.name) name ≡ false →
    texts w name (field_then f rest) ≡ texts w name rest
other_texts w f rest name e = rw e refl

other_numbers : (w : Written) (f : Field) (rest : Tree) (name : List ℕ) → bytes_eq (token_text w f.name) name ≡ false →
    numbers w name (field_then f rest) ≡ numbers w name rest
other_numbers w f rest name e = rw e refl

same_constraint : (name : Option (List ℕ)) (enforcement : List ℤ) (n m : List (List ℕ)) (d e : List ℤ) (k l : Kind) → n ≡ m → d ≡ e → k ≡ l →
    ◌≡◌ {A = Constraint} (record { name = first_or [] (option_to_list name ++ n); enforcement = enforcement ++ d; kind = k })
    (record { name = first_or [] (option_to_list name ++ m); enforcement = enforcement ++ e; kind = l })
same_constraint name enforcement n m d e k l a b c = rw (a, b, c) refl

-- one kind more
kinds_more : (old new more : List Kind) (rest : List Kind) → new ≡ old ++ more → first_or Empty (old ++ (more ++ rest)) ≡ first_or Empty (new ++ rest)
kinds_more old new more rest e = rw (e, append_assoc old more rest) refl

pub kind_field_read : (w : Written) (f : Field) (kind : KindName) (r : Result (Unit {0}) SchemaError) (old new : ConstraintParts) →
    new.name ≡ old.name → new.enforcement ≡ old.enforcement → kind_named (token_text w f.name) ≡ Some kind →
    OnOk r (kind_list new.given ≡ kind_list old.given ++ map (read_kind w kind) (value_messages (values_of f.items))) →
    OnOk r ((rest : Tree) → constraint_from w old (field_then f rest) ≡ constraint_from w new rest)
kind_field_read w f kind (Ok x) old new same kept named added = λ rest.
    let text = named_text (token_text w f.name) kind named in
    let given : List Kind = map (read_kind w kind) (value_messages (values_of f.items)) in
    let kinds : first_or Empty (kind_list old.given ++ given_kinds w (field_then f rest)) ≡ first_or Empty (kind_list old.given ++ (given ++ given_kinds w rest)) =
    ap (λ (k : Option KindName). first_or Empty (kind_list old.given ++ (kinds_of w k (value_messages (values_of f.items)) ++ given_kinds w rest))) named in
    rw (same, kept)
    (same_constraint old.name old.enforcement.items (texts w (codes "name") (field_then f rest)) (texts w (codes "name") rest)
    (numbers w (codes "enforcement_literal") (field_then f rest)) (numbers w (codes "enforcement_literal") rest)
    (first_or Empty (kind_list old.given ++ given_kinds w (field_then f rest))) (first_or Empty (kind_list new.given ++ given_kinds w rest))
    (other_texts w f rest (codes "name") (rw text (name_apart kind))) (other_numbers w f rest (codes "enforcement_literal") (rw text (enforcement_apart kind)))
    (kinds ∙ kinds_more (kind_list old.given) (kind_list new.given) given (given_kinds w rest) added))
kind_field_read w f kind (Err e) old new same kept named added = added

-- the kind of the text that a name is
pub named_as : (name text : List ℕ) (kind : Option KindName) → name ≡ text → kind ≡ kind_named name → kind_named text ≡ kind
named_as name text kind same named = ap kind_named (sym same) ∙ sym named
