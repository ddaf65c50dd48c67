-- Messages that are read by a list of their fields.
use Rattle.std.specs.Option.{option_or}
use Rattle.std.specs.List.{list_any}
use Rattle.std.specs.Str.{bytes_eq}
use Rattle.std.proofs.Common.{◌≡◌, ℕ, ◌+◌, ◌<◌, suc, List, [], ◌∷◌, ◌++◌, ◌||◌, ◌&&◌, Bool, true, false, not, if◌then◌else◌, map, length, take, get_or, Option, Some, None, append_assoc, append-nil, zero-add, refl, sym, ap, ◌∙◌, arith, OnOk, IfErr, Result, Ok, Err}
use Rattle.std.proofs.Math.ListN.{set}
use Rattle.std.proofs.lemmas.List.{map-append, take_more}
use Rattle.std.proofs.lemmas.Slice.Eq.{bytes_eq-Decides}
use Rattle.cps_textproto.specs.declared.tree.Field.{Field}
use Rattle.cps_textproto.specs.Trees.{Tree, Values, no_fields, values_of}
use Rattle.cps_model.specs.declared.fault.FaultName.{FaultName}
use Rattle.cps_model.specs.declared.fault.FaultName.TheVariants.{UnknownField, Repeated, MixedForms}
use Rattle.cps_schema.specs.declared.error.SchemaError.{SchemaError}
use Rattle.cps_schema.specs.declared.error.SchemaError.TheVariants.{Fault, OutOfMemory}
use Rattle.cps_schema.specs.declared.form.Form.{Form}
use Rattle.cps_schema.specs.declared.form.Form.TheVariants.{Older, Newer}
use Rattle.cps_schema.specs.declared.gather.Contents.{Contents}
use Rattle.cps_schema.specs.declared.gather.Contents.TheVariants.{References, Numbers, Truths, Expressions}
use Rattle.cps_schema.specs.declared.gather.Takes.{Takes}
use Rattle.cps_schema.specs.declared.gather.Takes.TheVariants.{Many, One, ManyOf, OneOf}
use Rattle.cps_schema.specs.declared.gather.Line.{Line}
use Rattle.cps_schema.specs.declared.gather.Slot.{Slot}
use Rattle.cps_schema.specs.declared.gather.Gathered.{Gathered}
use Rattle.cps_schema.specs.Written.{Written, token_text}
use Rattle.cps_schema.specs.Tables.{Message, use_in, use_of, table_of, is_given}
use Rattle.cps_schema.specs.Faults.{refused_at, is_alone, alone_fault, is_other_form, has_other_form, values_fault, fields_fault}
use Rattle.cps_schema.specs.Answers.{Refuses}
use Rattle.cps_schema.specs.Steps.{field_then, Passes, Stops}
use Rattle.cps_schema.specs.Slots.{AreGivenSlots}
use Rattle.cps_schema.specs.Parts.{is_other}
use Rattle.cps_schema.specs.Gathered.{content_taken, use_taken, contents_of, form_taken, entry_of, IsTableOf, are_apart, GatheredFields, nothing, joined, found_in, found_of, found, held, lines_of, found_from, all_from, marks, IsGathered, is_mixed, line_fault, form_behind, line_place}
use Rattle.cps_schema.proofs.Steps.{next_given, refused_stops}
use Rattle.cps_schema.proofs.Forms.{next_form, joined_form}

-- the slot of a name
abbrev pub slot_named : List Slot → List ℕ → Option Slot
slot_named [] name = None
slot_named (slot ∷ slots) name = if bytes_eq name slot.line.0.now then Some slot else slot_named slots name

-- the slots with another one in its place
abbrev pub put_named : List Slot → List ℕ → Slot → List Slot
put_named [] name new = []
put_named (slot ∷ slots) name new = if bytes_eq name slot.line.0.now then new ∷ slots else slot ∷ put_named slots name new

same_bytes : (a b : List ℕ) → bytes_eq a b ≡ true → a ≡ b
same_bytes a b e = (bytes_eq-Decides a b).0 e

-- the use of a line in a message's table
pub slot_use : (text : List ℕ) (slots : List Slot) (slot : Slot) → slot_named slots text ≡ Some slot →
    use_in (map entry_of (lines_of slots)) text ≡ Some (use_taken slot.line.1)
slot_use text [] slot e = cc
slot_use text (s ∷ slots) slot e = by_test (bytes_eq text s.line.0.now) refl (λ n. slot_use text slots slot n) where
  by_test : (b : Bool) → bytes_eq text s.line.0.now ≡ b →
      (slot_named slots text ≡ Some slot → use_in (map entry_of (lines_of slots)) text ≡ Some (use_taken slot.line.1)) →
      use_in (map entry_of (lines_of (s ∷ slots))) text ≡ Some (use_taken slot.line.1)
  by_test true t more =
      let this : Some s ≡ Some slot = rw t at e in
      let same : s ≡ slot = cc in
      rw (t, same) refl
  by_test false t more =
      let other : slot_named slots text ≡ Some slot = rw t at e in
      rw t (more other)

pub no_slot_use : (text : List ℕ) (slots : List Slot) → slot_named slots text ≡ None → use_in (map entry_of (lines_of slots)) text ≡ None
no_slot_use text [] e = refl
no_slot_use text (s ∷ slots) e = by_test (bytes_eq text s.line.0.now) refl (λ n. no_slot_use text slots n) where
  by_test : (b : Bool) → bytes_eq text s.line.0.now ≡ b →
      (slot_named slots text ≡ None → use_in (map entry_of (lines_of slots)) text ≡ None) →
      use_in (map entry_of (lines_of (s ∷ slots))) text ≡ None
  by_test true t more =
      let this : ◌≡◌ {A = Option Slot} (Some s) None = rw t at e in
      cc
  by_test false t more =
      let other : slot_named slots text ≡ None = rw t at e in
      rw t (more other)

-- another slot of the same line
pub lines_put : (text : List ℕ) (slots : List Slot) (old new : Slot) → slot_named slots text ≡ Some old → new.line ≡ old.line →
    lines_of (put_named slots text new) ≡ lines_of slots
lines_put text [] old new e same = refl
lines_put text (s ∷ slots) old new e same = by_test (bytes_eq text s.line.0.now) refl (λ n. lines_put text slots old new n same) where
  by_test : (b : Bool) → bytes_eq text s.line.0.now ≡ b →
      (slot_named slots text ≡ Some old → lines_of (put_named slots text new) ≡ lines_of slots) →
      lines_of (put_named (s ∷ slots) text new) ≡ lines_of (s ∷ slots)
  by_test true t more =
      let this : Some s ≡ Some old = rw t at e in
      let one : s ≡ old = cc in
      rw (t, same, one) refl
  by_test false t more =
      let other : slot_named slots text ≡ Some old = rw t at e in
      rw t (ap (λ (ls : List Line). s.line ∷ ls) (more other))

-- whether a line's field was read
pub slot_given : (text : List ℕ) (slots : List Slot) (slot : Slot) (before : List (List ℕ)) → slot_named slots text ≡ Some slot →
    AreGivenSlots (marks slots) before → is_given before text ≡ slot.given
slot_given text [] slot before e given = cc
slot_given text (s ∷ slots) slot before e given =
    by_test (bytes_eq text s.line.0.now) refl (λ n. slot_given text slots slot before n given.1) where
      by_test : (b : Bool) → bytes_eq text s.line.0.now ≡ b → (slot_named slots text ≡ Some slot → is_given before text ≡ slot.given) →
          is_given before text ≡ slot.given
      by_test true t more =
          let this : Some s ≡ Some slot = rw t at e in
          let one : s ≡ slot = cc in
          rw (same_bytes text s.line.0.now t, ← one) given.0
      by_test false t more =
          let other : slot_named slots text ≡ Some slot = rw t at e in
          more other

both_true : (a b : Bool) → (a && b) ≡ true → (a ≡ true) × (b ≡ true)
both_true true true e = (refl, refl)
both_true true false e = cc
both_true false b e = cc

not_true : (a : Bool) → not a ≡ true → a ≡ false
not_true true e = cc
not_true false e = refl

-- no slot has this name
abbrev pub LacksName : List ℕ → List Slot → Type 0
LacksName name [] = Unit {0}
LacksName name (slot ∷ slots) = (bytes_eq slot.line.0.now name ≡ false) × LacksName name slots

or_is_false : (a b : Bool) → (a || b) ≡ false → (a ≡ false) × (b ≡ false)
or_is_false true b e = cc
or_is_false false true e = cc
or_is_false false false e = (refl, refl)

lacks_of : (name : List ℕ) (slots : List Slot) → list_any (λ (other : Line). bytes_eq other.0.now name) (lines_of slots) ≡ false → LacksName name slots
lacks_of name [] e = tt
lacks_of name (slot ∷ slots) e =
    let both = or_is_false (bytes_eq slot.line.0.now name) (list_any (λ (other : Line). bytes_eq other.0.now name) (lines_of slots)) e in
    (both.0, lacks_of name slots both.1)

-- the first name is in none of the others
apart_first : (slot : Slot) (slots : List Slot) → are_apart (lines_of (slot ∷ slots)) ≡ true →
    LacksName slot.line.0.now slots × (are_apart (lines_of slots) ≡ true)
apart_first slot slots e =
    let both = both_true (not (list_any (λ (other : Line). bytes_eq other.0.now slot.line.0.now) (lines_of slots))) (are_apart (lines_of slots)) e in
    (lacks_of slot.line.0.now slots (not_true (list_any (λ (other : Line). bytes_eq other.0.now slot.line.0.now) (lines_of slots)) both.0), both.1)

-- a name more that is none of these
marks_lacking : (name : List ℕ) (slots : List Slot) (before : List (List ℕ)) → LacksName name slots →
    AreGivenSlots (marks slots) before → AreGivenSlots (marks slots) (name ∷ before)
marks_lacking name [] before lacks given = tt
marks_lacking name (slot ∷ slots) before lacks given =
    (next_given slot.line.0.now name before ∙ rw lacks.0 given.0, marks_lacking name slots before lacks.1 given.1)

same_itself : (name : List ℕ) → bytes_eq name name ≡ true
same_itself name = (bytes_eq-Decides name name).1 refl

differs_back : (a b : List ℕ) → bytes_eq a b ≡ false → bytes_eq b a ≡ false
differs_back a b e = by_test (bytes_eq b a) refl where
  by_test : (r : Bool) → bytes_eq b a ≡ r → r ≡ false
  by_test true t =
      let same : b ≡ a = same_bytes b a t in
      let both : bytes_eq a b ≡ true = rw same (same_itself a) in
      cc
  by_test false t = refl

-- one field more is marked
pub marks_put : (text : List ℕ) (slots : List Slot) (old new : Slot) (before : List (List ℕ)) → slot_named slots text ≡ Some old →
    new.line ≡ old.line → new.given ≡ true → are_apart (lines_of slots) ≡ true →
    AreGivenSlots (marks slots) before → AreGivenSlots (marks (put_named slots text new)) (text ∷ before)
marks_put text [] old new before e same given apart all = tt
marks_put text (s ∷ slots) old new before e same given apart all =
    let first = apart_first s slots apart in
    by_test (bytes_eq text s.line.0.now) refl first (λ n. marks_put text slots old new before n same given first.1 all.1) where
      by_test : (b : Bool) → bytes_eq text s.line.0.now ≡ b → LacksName s.line.0.now slots × (are_apart (lines_of slots) ≡ true) →
          (slot_named slots text ≡ Some old → AreGivenSlots (marks (put_named slots text new)) (text ∷ before)) →
          AreGivenSlots (marks (put_named (s ∷ slots) text new)) (text ∷ before)
      by_test true t first more =
          let this : Some s ≡ Some old = rw t at e in
          let one : s ≡ old = cc in
          let name : text ≡ s.line.0.now = same_bytes text s.line.0.now t in
          let line : new.line ≡ s.line = cc in
          let own : is_given (s.line.0.now ∷ before) s.line.0.now ≡ true = next_given s.line.0.now s.line.0.now before ∙ rw (same_itself s.line.0.now) refl in
          rw (t, line, given, name) (own, marks_lacking s.line.0.now slots before first.0 all.1)
      by_test false t first more =
          let other : slot_named slots text ≡ Some old = rw t at e in
          rw t (next_given s.line.0.now text before ∙ rw (differs_back text s.line.0.now t) all.0, more other)

-- the slot at a place
pub record Placed (slots : List Slot) (name : List ℕ) (place : ℕ) : Type 0 where
  pub within : place < length slots
  pub named : (d : Slot) → slot_named slots name ≡ Some (get_or slots place d)
  pub put : (new : Slot) → set slots place new ≡ put_named slots name new

-- a place behind the first of these
next_within : (slot : Slot) (slots : List Slot) (j : ℕ) → j < length slots → suc j < length (slot ∷ slots)
next_within slot slots j h = omega arith

first_within : (slot : Slot) (slots : List Slot) → 0 < length (slot ∷ slots)
first_within slot slots = omega arith

next_place : (place j k : ℕ) → place ≡ j + (k + 1) → place ≡ suc j + k
next_place place j k e = omega arith

same_place : (k place : ℕ) → Some k ≡ Some place → place ≡ 0 + k
same_place k place e = (let same : place ≡ k = cc in same) ∙ sym (zero-add k)

place_behind : (k : ℕ) (slots : List Slot) (name : List ℕ) (place : ℕ) → line_place k slots name ≡ Some place →
    (j : ℕ) × (place ≡ j + k) × Placed slots name j
place_behind k [] name place e = cc
place_behind k (slot ∷ slots) name place e =
    by_test (bytes_eq name slot.line.0.now) refl (λ n. place_behind (k + 1) slots name place n) where
      by_test : (b : Bool) → bytes_eq name slot.line.0.now ≡ b →
          (line_place (k + 1) slots name ≡ Some place → (j : ℕ) × (place ≡ j + (k + 1)) × Placed slots name j) →
          (j : ℕ) × (place ≡ j + k) × Placed (slot ∷ slots) name j
      by_test true t more =
          let this : Some k ≡ Some place = rw t at e in
          (0, same_place k place this, record { within = first_within slot slots; named = λ d. rw t refl; put = λ new. rw t refl })
      by_test false t more =
          let other : line_place (k + 1) slots name ≡ Some place = rw t at e in
          let rest = more other in (
            suc rest.0,
            next_place place rest.0 k rest.1,
            record {
              within = next_within slot slots rest.0 rest.2.within;
              named = λ d. rw t (rest.2.named d);
              put = λ new. rw t (ap (λ (ss : List Slot). slot ∷ ss) (rest.2.put new));
            },
          )

pub placed : (slots : List Slot) (name : List ℕ) (place : ℕ) → line_place 0 slots name ≡ Some place → Placed slots name place
placed slots name place e =
    let found = place_behind 0 slots name place e in
    let same : place ≡ found.0 = (let far : place ≡ found.0 + 0 = found.1 in omega arith) in
    rw same found.2

none_behind : (k : ℕ) (slots : List Slot) (name : List ℕ) → line_place k slots name ≡ None → slot_named slots name ≡ None
none_behind k [] name e = refl
none_behind k (slot ∷ slots) name e = by_test (bytes_eq name slot.line.0.now) refl (λ n. none_behind (k + 1) slots name n) where
  by_test : (b : Bool) → bytes_eq name slot.line.0.now ≡ b → (line_place (k + 1) slots name ≡ None → slot_named slots name ≡ None) →
      slot_named (slot ∷ slots) name ≡ None
  by_test true t more =
      let this : ◌≡◌ {A = Option ℕ} (Some k) None = rw t at e in
      cc
  by_test false t more =
      let other : line_place (k + 1) slots name ≡ None = rw t at e in
      rw t (more other)

pub unplaced : (slots : List Slot) (name : List ℕ) → line_place 0 slots name ≡ None → slot_named slots name ≡ None
unplaced slots name e = none_behind 0 slots name e

-- what a field of a line does to the first fault

or_regrouped : {X : Type 0} (a b c d : Option X) → option_or (option_or a b) (option_or c d) ≡ option_or (option_or a (option_or b c)) d
or_regrouped None None c d = refl
or_regrouped None (Some x) c d = refl
or_regrouped (Some x) b c d = refl

line_step : (w : Written) (m : Message) (before : List (List ℕ)) (f : Field) (takes : Takes) (given : Bool) (form : Option Form) →
    use_of m (token_text w f.name) ≡ Some (use_taken takes) → is_given before (token_text w f.name) ≡ given →
    ((other : Form) → has_other_form m other before ≡ is_other form other) →
    (rest : Tree) → fields_fault w m before (field_then f rest)
    ≡ option_or (line_fault w takes given form f) (fields_fault w m (token_text w f.name ∷ before) rest)
line_step w m before f (Many contents) given form takes again forms rest = rw takes refl
line_step w m before f (One contents) given form takes again forms rest =
    rw (takes, again)
    (or_regrouped (refused_at f.name (if given then Some Repeated else None)) (alone_fault w f.name (is_alone f.list (values_of f.items)))
    (values_fault w (Some (content_taken contents)) (values_of f.items)) (fields_fault w m (token_text w f.name ∷ before) rest))
line_step w m before f (ManyOf own contents) given form takes again forms rest =
    rw (takes, forms own)
    (or_regrouped (refused_at f.name (if is_other form own then Some MixedForms else None)) None
    (values_fault w (Some (content_taken contents)) (values_of f.items)) (fields_fault w m (token_text w f.name ∷ before) rest))
line_step w m before f (OneOf own contents) given form takes again forms rest =
    rw (takes, again, forms own)
    (or_regrouped (refused_at f.name (if given then Some Repeated else (if is_other form own then Some MixedForms else None)))
    (alone_fault w f.name (is_alone f.list (values_of f.items)))
    (values_fault w (Some (content_taken contents)) (values_of f.items)) (fields_fault w m (token_text w f.name ∷ before) rest))

line_stops : (w : Written) (m : Message) (before : List (List ℕ)) (f : Field) (fault : Option (FaultName × ℕ)) →
    ((rest : Tree) → fields_fault w m before (field_then f rest) ≡ option_or fault (fields_fault w m (token_text w f.name ∷ before) rest)) →
    (e : SchemaError) → Refuses fault e → Stops w m before f e
line_stops w m before f fault step (Fault name token) refused rest = step rest ∙ rw refused refl
line_stops w m before f fault step OutOfMemory refused rest = tt

-- the form of a field
abbrev pub other_of : Option Form → Form → Bool
other_of None form = false
other_of (Some own) form = is_other (Some own) form

own_form : (takes : Takes) (form : Form) → is_other_form form (Some (use_taken takes)) ≡ other_of (form_taken takes) form
own_form (Many contents) Older = refl
own_form (Many contents) Newer = refl
own_form (One contents) Older = refl
own_form (One contents) Newer = refl
own_form (ManyOf Older contents) Older = refl
own_form (ManyOf Older contents) Newer = refl
own_form (ManyOf Newer contents) Older = refl
own_form (ManyOf Newer contents) Newer = refl
own_form (OneOf Older contents) Older = refl
own_form (OneOf Older contents) Newer = refl
own_form (OneOf Newer contents) Older = refl
own_form (OneOf Newer contents) Newer = refl

form_more : (given : Option Form) (takes : Takes) (form : Form) → is_mixed given (form_taken takes) ≡ false →
    (other_of (form_taken takes) form || is_other given form) ≡ is_other (form_behind given takes) form
form_more given (Many contents) form e = refl
form_more given (One contents) form e = refl
form_more given (ManyOf own contents) form e = joined_form given own form e
form_more given (OneOf own contents) form e = joined_form given own form e

forms_behind : (m : Message) (text : List ℕ) (before : List (List ℕ)) (takes : Takes) (given : Option Form) →
    use_of m text ≡ Some (use_taken takes) → is_mixed given (form_taken takes) ≡ false →
    ((form : Form) → has_other_form m form before ≡ is_other given form) →
    (form : Form) → has_other_form m form (text ∷ before) ≡ is_other (form_behind given takes) form
forms_behind m text before takes given taken same forms form =
    next_form m form text before ∙ rw (taken, own_form takes form, forms form) (form_more given takes form same)

-- what a field of a line gives

or_true : (b : Bool) → (b || true) ≡ true
or_true true = refl
or_true false = refl

or_false : (b : Bool) → (b || false) ≡ b
or_false true = refl
or_false false = refl

or_or : (a b c : Bool) → ((a || b) || c) ≡ (a || (b || c))
or_or true b c = refl
or_or false b c = refl

joined_assoc : (a b c : GatheredFields) → joined (joined a b) c ≡ joined a (joined b c)
joined_assoc a b c =
    rw (
      or_or a.given b.given c.given,
      append_assoc a.references b.references c.references,
      append_assoc a.numbers b.numbers c.numbers,
      append_assoc a.truths b.truths c.truths,
      append_assoc a.expressions b.expressions c.expressions,
    ) refl

joined_none : (w : Written) (h : GatheredFields) (contents : Contents) (name : List ℕ) → joined h (found_of w contents name no_fields) ≡ h
joined_none w h References name = rw (or_false h.given, append-nil h.references, append-nil h.numbers, append-nil h.truths, append-nil h.expressions) refl
joined_none w h Numbers name = rw (or_false h.given, append-nil h.references, append-nil h.numbers, append-nil h.truths, append-nil h.expressions) refl
joined_none w h Truths name = rw (or_false h.given, append-nil h.references, append-nil h.numbers, append-nil h.truths, append-nil h.expressions) refl
joined_none w h Expressions name = rw (or_false h.given, append-nil h.references, append-nil h.numbers, append-nil h.truths, append-nil h.expressions) refl

is_marked : (w : Written) (old new : Slot) (contents : Contents) (vs : Values) → held new ≡ joined (held old) (found_in w contents vs) → new.given ≡ true
is_marked w old new References vs e = ap (λ (h : GatheredFields). h.given) e ∙ or_true old.given
is_marked w old new Numbers vs e = ap (λ (h : GatheredFields). h.given) e ∙ or_true old.given
is_marked w old new Truths vs e = ap (λ (h : GatheredFields). h.given) e ∙ or_true old.given
is_marked w old new Expressions vs e = ap (λ (h : GatheredFields). h.given) e ∙ or_true old.given

found_own : (w : Written) (f : Field) (rest : Tree) (contents : Contents) (name : List ℕ) → bytes_eq (token_text w f.name) name ≡ true →
    found_of w contents name (field_then f rest) ≡ joined (found_in w contents (values_of f.items)) (found_of w contents name rest)
found_own w f rest References name e = rw e refl
found_own w f rest Numbers name e = rw e refl
found_own w f rest Truths name e = rw e refl
found_own w f rest Expressions name e = rw e (rw map-append refl)

found_other : (w : Written) (f : Field) (rest : Tree) (contents : Contents) (name : List ℕ) → bytes_eq (token_text w f.name) name ≡ false →
    found_of w contents name (field_then f rest) ≡ found_of w contents name rest
found_other w f rest References name e = rw e refl
found_other w f rest Numbers name e = rw e refl
found_other w f rest Truths name e = rw e refl
found_other w f rest Expressions name e = rw e refl

-- a field of another name
other_slot : (w : Written) (f : Field) (rest : Tree) (slot : Slot) → bytes_eq (token_text w f.name) slot.line.0.now ≡ false →
    found_from w (field_then f rest) slot ≡ found_from w rest slot
other_slot w f rest slot e = ap (λ (h : GatheredFields). joined (held slot) h) (found_other w f rest (contents_of slot.line.1) slot.line.0.now e)

-- and one of the slot's
own_slot : (w : Written) (f : Field) (rest : Tree) (old new : Slot) → bytes_eq (token_text w f.name) old.line.0.now ≡ true → new.line ≡ old.line →
    held new ≡ joined (held old) (found_in w (contents_of old.line.1) (values_of f.items)) →
    found_from w (field_then f rest) old ≡ found_from w rest new
own_slot w f rest old new e same added =
    let more : GatheredFields = found_in w (contents_of old.line.1) (values_of f.items) in
    let behind : GatheredFields = found w rest old.line in
    ap (λ (h : GatheredFields). joined (held old) h) (found_own w f rest (contents_of old.line.1) old.line.0.now e)
    ∙ sym (joined_assoc (held old) more behind)
    ∙ ap (λ (h : GatheredFields). joined h behind) (sym added)
    ∙ ap (λ (line : Line). joined (held new) (found w rest line)) (sym same)

all_lacking : (w : Written) (f : Field) (rest : Tree) (slots : List Slot) → LacksName (token_text w f.name) slots →
    all_from w slots (field_then f rest) ≡ all_from w slots rest
all_lacking w f rest [] lacks = refl
all_lacking w f rest (slot ∷ slots) lacks =
    rw (other_slot w f rest slot (differs_back slot.line.0.now (token_text w f.name) lacks.0), all_lacking w f rest slots lacks.1) refl

pub all_step : (w : Written) (f : Field) (rest : Tree) (slots : List Slot) (old new : Slot) → slot_named slots (token_text w f.name) ≡ Some old →
    new.line ≡ old.line → held new ≡ joined (held old) (found_in w (contents_of old.line.1) (values_of f.items)) → are_apart (lines_of slots) ≡ true →
    all_from w slots (field_then f rest) ≡ all_from w (put_named slots (token_text w f.name) new) rest
all_step w f rest [] old new e same added apart = cc
all_step w f rest (s ∷ slots) old new e same added apart =
    let first = apart_first s slots apart in
    by_test (bytes_eq (token_text w f.name) s.line.0.now) refl first (λ n. all_step w f rest slots old new n same added first.1) where
      by_test : (b : Bool) → bytes_eq (token_text w f.name) s.line.0.now ≡ b → LacksName s.line.0.now slots × (are_apart (lines_of slots) ≡ true) →
          (slot_named slots (token_text w f.name) ≡ Some old → all_from w slots (field_then f rest) ≡ all_from w (put_named slots (token_text w f.name) new) rest) →
          all_from w (s ∷ slots) (field_then f rest) ≡ all_from w (put_named (s ∷ slots) (token_text w f.name) new) rest
      by_test true t first more =
          let this : Some s ≡ Some old = rw t at e in
          let one : s ≡ old = cc in
          let name : token_text w f.name ≡ s.line.0.now = same_bytes (token_text w f.name) s.line.0.now t in
          let lacks : LacksName (token_text w f.name) slots = rw name first.0 in
          let own : found_from w (field_then f rest) s ≡ found_from w rest new = own_slot w f rest s new t (rw one same) (rw one added) in
          rw t (ap (λ (h : GatheredFields). h ∷ all_from w slots (field_then f rest)) own
          ∙ ap (λ (hs : List GatheredFields). found_from w rest new ∷ hs) (all_lacking w f rest slots lacks))
      by_test false t first more =
          let other : slot_named slots (token_text w f.name) ≡ Some old = rw t at e in
          rw t (ap (λ (h : GatheredFields). h ∷ all_from w slots (field_then f rest)) (other_slot w f rest s t)
          ∙ ap (λ (hs : List GatheredFields). found_from w rest s ∷ hs) (more other))

-- before any field, and behind the last

-- the slot of one line more
pub slots_more : (slots new : List Slot) (slot : Slot) (lines : List Line) (i : ℕ) (d : Line) → i < length lines → slot.line ≡ get_or lines i d → held slot ≡ nothing →
    new ≡ slots ++ slot ∷ [] → (lines_of slots ≡ take i lines) × (map held slots ≡ map (λ (line : Line). nothing) (take i lines)) →
    (lines_of new ≡ take (i + 1) lines) × (map held new ≡ map (λ (line : Line). nothing) (take (i + 1) lines))
slots_more slots new slot lines i d h same empty added before =
    let more : take (i + 1) lines ≡ take i lines ++ get_or lines i d ∷ [] = take_more lines i d h in (
      ap lines_of added ∙ map-append (λ (s : Slot). s.line) slots (slot ∷ []) ∙ ap (λ (line : Line). lines_of slots ++ line ∷ []) same
          ∙ ap (λ (ls : List Line). ls ++ get_or lines i d ∷ []) before.0 ∙ sym more,
      ap (map held) added ∙ map-append held slots (slot ∷ []) ∙ ap (λ (h : GatheredFields). map held slots ++ h ∷ []) empty
          ∙ ap (λ (hs : List GatheredFields). hs ++ nothing ∷ []) before.1
          ∙ sym (ap (map (λ (line : Line). nothing)) more ∙ map-append (λ (line : Line). nothing) (take i lines) (get_or lines i d ∷ [])),
    )

pub all_first : (w : Written) (tree : Tree) (slots : List Slot) → map held slots ≡ map (λ (line : Line). nothing) (lines_of slots) →
    all_from w slots tree ≡ map (found w tree) (lines_of slots)
all_first w tree [] e = refl
all_first w tree (s ∷ slots) e =
    let empty : held s ≡ nothing = cc in
    let others : map held slots ≡ map (λ (line : Line). nothing) (lines_of slots) = cc in
    let own : found_from w tree s ≡ found w tree s.line = ap (λ (h : GatheredFields). joined h (found w tree s.line)) empty in
    ap (λ (h : GatheredFields). h ∷ all_from w slots tree) own ∙ ap (λ (hs : List GatheredFields). found w tree s.line ∷ hs) (all_first w tree slots others)

pub marks_first : (slots : List Slot) → map held slots ≡ map (λ (line : Line). nothing) (lines_of slots) → AreGivenSlots (marks slots) []
unfolding is_given
marks_first [] e = tt
marks_first (s ∷ slots) e =
    let empty : held s ≡ nothing = cc in
    let others : map held slots ≡ map (λ (line : Line). nothing) (lines_of slots) = cc in
    (sym (ap (λ (h : GatheredFields). h.given) empty), marks_first slots others)

pub all_last : (w : Written) (slots : List Slot) → all_from w slots no_fields ≡ map held slots
all_last w [] = refl
all_last w (s ∷ slots) =
    ap (λ (h : GatheredFields). h ∷ all_from w slots no_fields) (joined_none w (held s) (contents_of s.line.1) s.line.0.now)
    ∙ ap (λ (hs : List GatheredFields). held s ∷ hs) (all_last w slots)

-- the use of a name in the message

table_slot_use : (m : Message) (slots : List Slot) (text : List ℕ) (slot : Slot) → IsTableOf m (lines_of slots) → slot_named slots text ≡ Some slot →
    use_of m text ≡ Some (use_taken slot.line.1)
unfolding use_of
table_slot_use m slots text slot is named = rw (is.table, slot_use text slots slot named) refl

table_no_use : (m : Message) (slots : List Slot) (text : List ℕ) → IsTableOf m (lines_of slots) → slot_named slots text ≡ None →
    use_in (table_of m) text ≡ None
table_no_use m slots text is none = rw is.table (no_slot_use text slots none)

-- a field of a line, behind which the parts are new
pub field_passes : (w : Written) (f : Field) (old new : Gathered) (s t : Slot) (r : Result (Unit {0}) SchemaError) →
    slot_named old.slots.items (token_text w f.name) ≡ Some s → are_apart (lines_of old.slots.items) ≡ true →
    new.slots.items ≡ put_named old.slots.items (token_text w f.name) t →
    OnOk r (line_fault w s.line.1 s.given old.form f ≡ None) →
    OnOk r (held t ≡ joined (held s) (found_in w (contents_of s.line.1) (values_of f.items))) →
    OnOk r (t.line ≡ s.line) → OnOk r (is_mixed old.form (form_taken s.line.1) ≡ false) →
    OnOk r (new.form ≡ form_behind old.form s.line.1) →
    OnOk r ((m : Message) (before : List (List ℕ)) → IsTableOf m (lines_of old.slots.items) → IsGathered m old before →
    Passes w m before f × IsGathered m new (token_text w f.name ∷ before))
field_passes w f old new s t (Ok x) named apart put clean added line same form = λ m before is given.
    let text = token_text w f.name in
    let taken = table_slot_use m old.slots.items text s is named in
    let again = slot_given text old.slots.items s before named given.marked in
    let step = line_step w m before f s.line.1 s.given old.form taken again given.forms in (
      (λ rest. step rest ∙ rw clean refl),
      record {
        marked = rw put (marks_put text old.slots.items s t before named line (is_marked w s t (contents_of s.line.1) (values_of f.items) added) apart given.marked);
        forms = λ other. rw form (forms_behind m text before s.line.1 old.form taken same given.forms other);
      },
    )
field_passes w f old new s t (Err e) named apart put clean added line same form = clean

pub field_read : (w : Written) (f : Field) (old new : Gathered) (s t : Slot) (r : Result (Unit {0}) SchemaError) →
    slot_named old.slots.items (token_text w f.name) ≡ Some s → are_apart (lines_of old.slots.items) ≡ true →
    new.slots.items ≡ put_named old.slots.items (token_text w f.name) t →
    OnOk r (held t ≡ joined (held s) (found_in w (contents_of s.line.1) (values_of f.items))) →
    OnOk r (t.line ≡ s.line) →
    OnOk r ((rest : Tree) → all_from w old.slots.items (field_then f rest) ≡ all_from w new.slots.items rest)
field_read w f old new s t (Ok x) named apart put added line = λ rest. rw put (all_step w f rest old.slots.items s t named line added apart)
field_read w f old new s t (Err e) named apart put added line = added

pub field_lines : (text : List ℕ) (old new : Gathered) (s t : Slot) (r : Result (Unit {0}) SchemaError) →
    slot_named old.slots.items text ≡ Some s → new.slots.items ≡ put_named old.slots.items text t → OnOk r (t.line ≡ s.line) →
    OnOk r (lines_of new.slots.items ≡ lines_of old.slots.items)
field_lines text old new s t (Ok x) named put line = rw put (lines_put text old.slots.items s t named line)
field_lines text old new s t (Err e) named put line = line

pub field_stops : (w : Written) (f : Field) (old : Gathered) (s : Slot) (r : Result (Unit {0}) SchemaError) →
    slot_named old.slots.items (token_text w f.name) ≡ Some s →
    IfErr r (Refuses (line_fault w s.line.1 s.given old.form f)) →
    IfErr r (λ e. (m : Message) (before : List (List ℕ)) → IsTableOf m (lines_of old.slots.items) → IsGathered m old before → Stops w m before f e)
field_stops w f old s (Ok x) named refused = refused
field_stops w f old s (Err e) named refused = λ m before is given.
    let text = token_text w f.name in
    let taken = table_slot_use m old.slots.items text s is named in
    let again = slot_given text old.slots.items s before named given.marked in
    line_stops w m before f (line_fault w s.line.1 s.given old.form f)
    (line_step w m before f s.line.1 s.given old.form taken again given.forms) e refused

-- a field of no line
pub no_field_stops : (w : Written) (f : Field) (slots : List Slot) → slot_named slots (token_text w f.name) ≡ None →
    (m : Message) (before : List (List ℕ)) → IsTableOf m (lines_of slots) → Stops w m before f (Fault UnknownField f.name)
unfolding is_given
no_field_stops w f slots none m before is =
    let stops = refused_stops w m f (table_no_use m slots (token_text w f.name) is none) before in
    rw is.unsupported at stops
