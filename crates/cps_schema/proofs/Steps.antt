-- What a field of each use does to the first fault of a message.
use Rattle.std.specs.Str.{bytes_eq}
use Rattle.std.specs.Option.{option_or}
use Rattle.std.proofs.Common.{◌≡◌, ℕ, List, ◌∷◌, ◌||◌, Bool, true, false, Option, Some, None, Result, Ok, Err, if◌then◌else◌, OnOk, IfOk, IfErr, refl, sym, ◌∙◌}
use Rattle.std.proofs.lemmas.Slice.Eq.{bytes_eq-Decides}
use Rattle.cps_textproto.specs.declared.tree.Field.{Field}
use Rattle.cps_textproto.specs.Trees.{Tree, values_of}
use Rattle.cps_model.specs.declared.fault.FaultName.TheVariants.{UnknownField, Unsupported, Repeated, TwoKinds}
use Rattle.cps_schema.specs.declared.error.SchemaError.{SchemaError}
use Rattle.cps_schema.specs.declared.error.SchemaError.TheVariants.{Fault, OutOfMemory}
use Rattle.cps_schema.specs.Written.{Written, token_text}
use Rattle.cps_schema.specs.Tables.{Message, Content, message, Use, single, repeated, closable, one_kind, table_of, use_in, use_of, unsupported_names, is_given}
use Rattle.cps_schema.specs.Faults.{has_kind, is_alone, alone_fault, values_fault, fields_fault}
use Rattle.cps_schema.specs.Inputs.{single_fault}
use Rattle.cps_schema.specs.Answers.{Refuses}
use Rattle.cps_schema.specs.Steps.{Passes, Stops, KindStops, ClosablePasses, ClosableStops, field_then}

-- a test of a text that came out true
pub same_name : {a text name : List ℕ} {r : Bool} → r ≡ bytes_eq a name → r ≡ true → a ≡ text → text ≡ name
same_name {a} {text} {name} e t s = sym s ∙ (bytes_eq-Decides a name).0 (sym e ∙ t)

-- and one that came out false
pub other_name : {a text : List ℕ} {r : Bool} (name : List ℕ) → r ≡ bytes_eq a name → r ≡ false → a ≡ text → bytes_eq text name ≡ false
other_name name e t s = rw (← s) (sym e ∙ t)

-- what a field takes whose name is in its message's table
pub table_use : (m : Message) (text name : List ℕ) (takes : Use) → text ≡ name → use_in (table_of m) name ≡ Some takes → use_of m text ≡ Some takes
unfolding use_of
table_use m text name takes e u = rw (e, u) refl

pub repeated_passes : (w : Written) (m : Message) (f : Field) (content : Content) (r : Result (Unit {0}) SchemaError) →
    use_of m (token_text w f.name) ≡ Some (repeated content) →
    OnOk r (values_fault w (Some content) (values_of f.items) ≡ None) →
    OnOk r ((before : List (List ℕ)) → Passes w m before f)
repeated_passes w m f content (Ok x) takes clean = λ before rest. rw (takes, clean) refl
repeated_passes w m f content (Err e) takes clean = clean

pub repeated_stops : (w : Written) (m : Message) (f : Field) (content : Content) (r : Result (Unit {0}) SchemaError) →
    use_of m (token_text w f.name) ≡ Some (repeated content) →
    IfErr r (Refuses (values_fault w (Some content) (values_of f.items))) →
    IfErr r (λ e. (before : List (List ℕ)) → Stops w m before f e)
repeated_stops w m f content (Ok x) takes refused = refused
repeated_stops w m f content (Err (Fault name token)) takes refused = λ before rest. rw (takes, refused) refl
repeated_stops w m f content (Err OutOfMemory) takes refused = λ before rest. tt

-- a name that the table has not
pub refused_stops : (w : Written) (m : Message) (f : Field) → use_in (table_of m) (token_text w f.name) ≡ None →
    (before : List (List ℕ)) →
    Stops w m before f (Fault (if is_given (unsupported_names m) (token_text w f.name) then Unsupported else UnknownField) f.name)
unfolding use_of
refused_stops w m f none before rest = by_test (is_given (unsupported_names m) (token_text w f.name)) refl where
  by_test : (known : Bool) → is_given (unsupported_names m) (token_text w f.name) ≡ known →
      Refuses (fields_fault w m before (field_then f rest)) (Fault (if is_given (unsupported_names m) (token_text w f.name) then Unsupported else UnknownField) f.name)
  by_test true e = rw (none, e) refl
  by_test false e = rw (none, e) refl

or_assoc : {X : Type 0} (a b c : Option X) → option_or (option_or a b) c ≡ option_or a (option_or b c)
or_assoc None b c = refl
or_assoc (Some x) b c = refl

-- a single field, the first of its name
single_step : (w : Written) (m : Message) (before : List (List ℕ)) (f : Field) (content : Content) →
    use_of m (token_text w f.name) ≡ Some (single content) → is_given before (token_text w f.name) ≡ false →
    (rest : Tree) → fields_fault w m before (field_then f rest)
    ≡ option_or (single_fault w content f) (fields_fault w m (token_text w f.name ∷ before) rest)
single_step w m before f content takes first rest =
    rw (takes, first)
    (sym (or_assoc (alone_fault w f.name (is_alone f.list (values_of f.items))) (values_fault w (Some content) (values_of f.items))
    (fields_fault w m (token_text w f.name ∷ before) rest)))

pub single_passes : (w : Written) (m : Message) (before : List (List ℕ)) (f : Field) (content : Content) →
    use_of m (token_text w f.name) ≡ Some (single content) → is_given before (token_text w f.name) ≡ false →
    single_fault w content f ≡ None → Passes w m before f
single_passes w m before f content takes first clean rest = single_step w m before f content takes first rest ∙ rw clean refl

pub single_stops : (w : Written) (m : Message) (before : List (List ℕ)) (f : Field) (content : Content) →
    use_of m (token_text w f.name) ≡ Some (single content) → is_given before (token_text w f.name) ≡ false →
    (e : SchemaError) → Refuses (single_fault w content f) e → Stops w m before f e
single_stops w m before f content takes first (Fault name token) refused rest = single_step w m before f content takes first rest ∙ rw refused refl
single_stops w m before f content takes first OutOfMemory refused rest = tt

pub single_again : (w : Written) (m : Message) (before : List (List ℕ)) (f : Field) (content : Content) →
    use_of m (token_text w f.name) ≡ Some (single content) → is_given before (token_text w f.name) ≡ true →
    Stops w m before f (Fault Repeated f.name)
single_again w m before f content takes again rest = rw (takes, again) refl

-- a field of a kind, the first of the kinds
kind_step : (w : Written) (m : Message) (before : List (List ℕ)) (f : Field) (k : Message) →
    use_of m (token_text w f.name) ≡ Some (one_kind k) → is_given w.closed (token_text w f.name) ≡ false → is_given before (token_text w f.name) ≡ false → has_kind m before ≡ false →
    (rest : Tree) → fields_fault w m before (field_then f rest)
    ≡ option_or (single_fault w (message k) f) (fields_fault w m (token_text w f.name ∷ before) rest)
kind_step w m before f k takes unclosed first alone rest =
    rw (takes, unclosed, first, alone)
    (sym (or_assoc (alone_fault w f.name (is_alone f.list (values_of f.items))) (values_fault w (Some (message k)) (values_of f.items))
    (fields_fault w m (token_text w f.name ∷ before) rest)))

pub kind_passes : (w : Written) (m : Message) (before : List (List ℕ)) (f : Field) (k : Message) →
    use_of m (token_text w f.name) ≡ Some (one_kind k) → is_given w.closed (token_text w f.name) ≡ false → is_given before (token_text w f.name) ≡ false → has_kind m before ≡ false →
    single_fault w (message k) f ≡ None → Passes w m before f
kind_passes w m before f k takes unclosed first alone clean rest = kind_step w m before f k takes unclosed first alone rest ∙ rw clean refl

pub kind_stops : (w : Written) (m : Message) (before : List (List ℕ)) (f : Field) (k : Message) →
    use_of m (token_text w f.name) ≡ Some (one_kind k) → is_given w.closed (token_text w f.name) ≡ false → is_given before (token_text w f.name) ≡ false → has_kind m before ≡ false →
    (e : SchemaError) → Refuses (single_fault w (message k) f) e → Stops w m before f e
kind_stops w m before f k takes unclosed first alone (Fault name token) refused rest = kind_step w m before f k takes unclosed first alone rest ∙ rw refused refl
kind_stops w m before f k takes unclosed first alone OutOfMemory refused rest = tt

pub kind_again : (w : Written) (m : Message) (before : List (List ℕ)) (f : Field) (k : Message) →
    use_of m (token_text w f.name) ≡ Some (one_kind k) → is_given w.closed (token_text w f.name) ≡ false → is_given before (token_text w f.name) ≡ true →
    Stops w m before f (Fault Repeated f.name)
kind_again w m before f k takes unclosed again rest = rw (takes, unclosed, again) refl

pub second_kind : (w : Written) (m : Message) (before : List (List ℕ)) (f : Field) (k : Message) →
    use_of m (token_text w f.name) ≡ Some (one_kind k) → is_given w.closed (token_text w f.name) ≡ false → is_given before (token_text w f.name) ≡ false → has_kind m before ≡ true →
    Stops w m before f (Fault TwoKinds f.name)
second_kind w m before f k takes unclosed first second rest = rw (takes, unclosed, first, second) refl

-- a field that the table leaves open
pub open_passes : (w : Written) (f : Field) (content : Content) (r : Result (Unit {0}) SchemaError) → is_given w.closed (token_text w f.name) ≡ false →
    OnOk r (values_fault w (Some content) (values_of f.items) ≡ None) → OnOk r (ClosablePasses w f content)
open_passes w f content (Ok x) unclosed clean = λ m before takes rest. rw (takes, unclosed, clean) refl
open_passes w f content (Err e) unclosed clean = clean

pub open_stops : (w : Written) (f : Field) (content : Content) (r : Result (Unit {0}) SchemaError) → is_given w.closed (token_text w f.name) ≡ false →
    IfErr r (Refuses (values_fault w (Some content) (values_of f.items))) → IfErr r (ClosableStops w f content)
open_stops w f content (Ok x) unclosed refused = refused
open_stops w f content (Err (Fault name token)) unclosed refused = λ m before takes rest. rw (takes, unclosed, refused) refl
open_stops w f content (Err OutOfMemory) unclosed refused = λ m before takes rest. tt

-- and one that it closes
pub closable_stops : (w : Written) (f : Field) (content : Content) → is_given w.closed (token_text w f.name) ≡ true →
    ClosableStops w f content (Fault Unsupported f.name)
closable_stops w f content closed = λ m before takes rest. rw (takes, closed) refl

-- with the facts that a message keeps about its fields
pub closable_passes : (w : Written) (m : Message) (f : Field) (content : Content) (r : Result (Unit {0}) SchemaError) →
    use_of m (token_text w f.name) ≡ Some (closable content) → OnOk r (ClosablePasses w f content) → OnOk r ((before : List (List ℕ)) → Passes w m before f)
closable_passes w m f content (Ok x) takes passes = λ before. passes m before takes
closable_passes w m f content (Err e) takes passes = passes

pub closable_refused : (w : Written) (m : Message) (f : Field) (content : Content) (r : Result (Unit {0}) SchemaError) →
    use_of m (token_text w f.name) ≡ Some (closable content) → IfErr r (ClosableStops w f content) →
    IfErr r (λ e. (before : List (List ℕ)) → Stops w m before f e)
closable_refused w m f content (Ok x) takes stops = stops
closable_refused w m f content (Err e) takes stops = λ before. stops m before takes

-- a fact that does not depend on what is read
pub if_read : {A E : Type 0} (r : Result A E) {P : Type 0} → P → IfOk r (λ _. P)
if_read (Ok x) fact = fact
if_read (Err e) fact = tt

-- a kind that the table closes
pub closed_stops : (w : Written) (m : Message) (before : List (List ℕ)) (f : Field) (k : Message) →
    use_of m (token_text w f.name) ≡ Some (one_kind k) → is_given w.closed (token_text w f.name) ≡ true →
    Stops w m before f (Fault Unsupported f.name)
closed_stops w m before f k takes closed rest = rw (takes, closed) refl

-- one name more
pub next_given : (name given : List ℕ) (before : List (List ℕ)) → is_given (given ∷ before) name ≡ (bytes_eq name given || is_given before name)
unfolding is_given
next_given name given before = refl

-- with a fact about the names before that the field keeps
pub if_passes : (w : Written) (m : Message) (f : Field) (G H : List (List ℕ) → Type 0) (r : Result (Unit {0}) SchemaError) →
    OnOk r ((before : List (List ℕ)) → Passes w m before f) →
    ((before : List (List ℕ)) → G before → H (token_text w f.name ∷ before)) →
    OnOk r ((before : List (List ℕ)) → G before → Passes w m before f × H (token_text w f.name ∷ before))
if_passes w m f G H (Ok x) passes kept = λ before given. (passes before, kept before given)
if_passes w m f G H (Err e) passes kept = passes

pub if_stops : (w : Written) (m : Message) (f : Field) (G : List (List ℕ) → Type 0) (r : Result (Unit {0}) SchemaError) →
    IfErr r (λ e. (before : List (List ℕ)) → Stops w m before f e) →
    IfErr r (λ e. (before : List (List ℕ)) → G before → Stops w m before f e)
if_stops w m f G (Ok x) stops = stops
if_stops w m f G (Err e) stops = λ before given. stops before

-- the message of a field of the first kind
pub first_kind_stops : {T : Type 0} (w : Written) (f : Field) (k : Message) (same given : Bool) (r : Result T SchemaError) →
    is_given w.closed (token_text w f.name) ≡ false → same ≡ false → given ≡ false →
    IfErr r (λ e. (m : Message) → Refuses (single_fault w (message m) f) e) →
    IfErr r (KindStops w f k same given)
first_kind_stops w f k same given (Ok x) unclosed different first stops = stops
first_kind_stops w f k same given (Err e) unclosed different first stops = λ m before takes again kinds.
    kind_stops w m before f k takes unclosed (again ∙ different) (kinds ∙ first) e (stops k)
