-- Fields of an older or a newer form.
use Rattle.std.specs.Str.{bytes_eq}
use Rattle.std.proofs.Common.{◌≡◌, ℕ, List, ◌∷◌, ◌||◌, Bool, true, false, Option, Some, None, Result, Ok, Err, OnOk, IfErr, codes, refl, ◌∙◌}
use Rattle.cps_textproto.specs.declared.tree.Field.{Field}
use Rattle.cps_textproto.specs.Trees.{values_of}
use Rattle.cps_model.specs.declared.fault.FaultName.TheVariants.{MixedForms}
use Rattle.cps_schema.specs.declared.error.SchemaError.{SchemaError}
use Rattle.cps_schema.specs.declared.error.SchemaError.TheVariants.{Fault, OutOfMemory}
use Rattle.cps_schema.specs.declared.form.Form.{Form}
use Rattle.cps_schema.specs.declared.form.Form.TheVariants.{Older, Newer}
use Rattle.cps_schema.specs.declared.strategy.StrategyParts.{StrategyParts}
use Rattle.cps_schema.specs.Written.{Written, token_text}
use Rattle.cps_schema.specs.Tables.{Message, strategy_message, Content, formed, use_in, use_of, table_of}
use Rattle.cps_schema.specs.Faults.{is_other_form, has_other_form, values_fault}
use Rattle.cps_schema.specs.Answers.{Refuses}
use Rattle.cps_schema.specs.Steps.{Passes, Stops, FormedPasses, FormedStops}
use Rattle.cps_schema.specs.Slots.{AreGivenSlots}
use Rattle.cps_schema.specs.Parts.{is_other, strategy_slots, IsStrategyGiven}

pub formed_passes : (w : Written) (m : Message) (before : List (List ℕ)) (f : Field) (form : Form) (content : Content) →
    use_of m (token_text w f.name) ≡ Some (formed form content) → has_other_form m form before ≡ false →
    values_fault w (Some content) (values_of f.items) ≡ None → Passes w m before f
formed_passes w m before f form content takes alone clean rest = rw (takes, alone, clean) refl

pub formed_stops : (w : Written) (m : Message) (before : List (List ℕ)) (f : Field) (form : Form) (content : Content) →
    use_of m (token_text w f.name) ≡ Some (formed form content) → has_other_form m form before ≡ false →
    (e : SchemaError) → Refuses (values_fault w (Some content) (values_of f.items)) e → Stops w m before f e
formed_stops w m before f form content takes alone (Fault name token) refused rest = rw (takes, alone, refused) refl
formed_stops w m before f form content takes alone OutOfMemory refused rest = tt

pub mixed_stops : (w : Written) (m : Message) (before : List (List ℕ)) (f : Field) (form : Form) (content : Content) →
    use_of m (token_text w f.name) ≡ Some (formed form content) → has_other_form m form before ≡ true →
    Stops w m before f (Fault MixedForms f.name)
mixed_stops w m before f form content takes mixed rest = rw (takes, mixed) refl

-- one name more
pub next_form : (m : Message) (form : Form) (given : List ℕ) (before : List (List ℕ)) →
    has_other_form m form (given ∷ before) ≡ (is_other_form form (use_of m given) || has_other_form m form before)
unfolding has_other_form
next_form m form given before = refl

-- a field that is no expression leaves the form
other_apart : (form : Form) (name : List ℕ) → is_other_form form (use_of strategy_message name) ≡ false →
    (text : List ℕ) (before : List (List ℕ)) → text ≡ name →
    has_other_form strategy_message form (text ∷ before) ≡ has_other_form strategy_message form before
other_apart form name apart text before e = rw e (next_form strategy_message form name before ∙ rw apart refl)

choose_apart : (form : Form) → is_other_form form (use_of strategy_message (codes "variable_selection_strategy")) ≡ false
unfolding use_of
choose_apart Older = refl
choose_apart Newer = refl

select_apart : (form : Form) → is_other_form form (use_of strategy_message (codes "domain_reduction_strategy")) ≡ false
unfolding use_of
select_apart Older = refl
select_apart Newer = refl

pub choose_given : (old new : StrategyParts) (text : List ℕ) (before : List (List ℕ)) → text ≡ codes "variable_selection_strategy" →
    new.form ≡ old.form → AreGivenSlots (strategy_slots new) (text ∷ before) → IsStrategyGiven old before → IsStrategyGiven new (text ∷ before)
choose_given old new text before e same slots given = record {
  slots = slots;
  forms = λ form. other_apart form (codes "variable_selection_strategy") (choose_apart form) text before e ∙ rw same (given.forms form);
}

pub select_given : (old new : StrategyParts) (text : List ℕ) (before : List (List ℕ)) → text ≡ codes "domain_reduction_strategy" →
    new.form ≡ old.form → AreGivenSlots (strategy_slots new) (text ∷ before) → IsStrategyGiven old before → IsStrategyGiven new (text ∷ before)
select_given old new text before e same slots given = record {
  slots = slots;
  forms = λ form. other_apart form (codes "domain_reduction_strategy") (select_apart form) text before e ∙ rw same (given.forms form);
}

-- fields of expressions

abbrev pub form_name : Form → List ℕ
form_name Older = codes "variables"
form_name Newer = codes "exprs"

own_form : (own form : Form) → is_other_form form (use_of strategy_message (form_name own)) ≡ is_other (Some own) form
unfolding use_of
own_form Older Older = refl
own_form Older Newer = refl
own_form Newer Older = refl
own_form Newer Newer = refl

-- what was not the other form's is that of its own alone
pub joined_form : (given : Option Form) (own form : Form) → is_other given own ≡ false →
    (is_other (Some own) form || is_other given form) ≡ is_other (Some own) form
joined_form None Older Older e = refl
joined_form None Older Newer e = refl
joined_form None Newer Older e = refl
joined_form None Newer Newer e = refl
joined_form (Some Older) Older Older e = refl
joined_form (Some Older) Older Newer e = refl
joined_form (Some Older) Newer form e = cc
joined_form (Some Newer) Newer Older e = refl
joined_form (Some Newer) Newer Newer e = refl
joined_form (Some Newer) Older form e = cc

forms_given : (given : Option Form) (own : Form) (text : List ℕ) (before : List (List ℕ)) → text ≡ form_name own → is_other given own ≡ false →
    ((form : Form) → has_other_form strategy_message form before ≡ is_other given form) →
    (form : Form) → has_other_form strategy_message form (text ∷ before) ≡ is_other (Some own) form
forms_given given own text before e same forms form =
    rw e (next_form strategy_message form (form_name own) before ∙ rw (own_form own form, forms form) (joined_form given own form same))

pub form_passes : (w : Written) (f : Field) (own : Form) (content : Content) (r : Result (Unit {0}) SchemaError) (old new : StrategyParts) →
    token_text w f.name ≡ form_name own → use_of strategy_message (form_name own) ≡ Some (formed own content) →
    ((before : List (List ℕ)) → AreGivenSlots (strategy_slots old) before → AreGivenSlots (strategy_slots new) (token_text w f.name ∷ before)) →
    OnOk r (FormedPasses w f own content (is_other old.form own)) → OnOk r (is_other old.form own ≡ false) → OnOk r (new.form ≡ Some own) →
    OnOk r ((before : List (List ℕ)) → IsStrategyGiven old before →
    Passes w strategy_message before f × IsStrategyGiven new (token_text w f.name ∷ before))
form_passes w f own content (Ok x) old new name takes slots passes same taken = λ before given. (
  passes strategy_message before (rw name takes) (given.forms own),
  record {
    slots = slots before given.slots;
    forms = λ form. rw taken (forms_given old.form own (token_text w f.name) before name same given.forms form);
  },
)
form_passes w f own content (Err e) old new name takes slots passes same taken = passes

pub form_stops : (w : Written) (f : Field) (own : Form) (content : Content) (r : Result (Unit {0}) SchemaError) (old : StrategyParts) →
    token_text w f.name ≡ form_name own → use_of strategy_message (form_name own) ≡ Some (formed own content) →
    IfErr r (FormedStops w f own content (is_other old.form own)) →
    IfErr r (λ e. (before : List (List ℕ)) → IsStrategyGiven old before → Stops w strategy_message before f e)
form_stops w f own content (Ok x) old name takes stops = stops
form_stops w f own content (Err e) old name takes stops = λ before given. stops strategy_message before (rw name takes) (given.forms own)

-- a field of a form whose values were read
pub formed_ok : (w : Written) (f : Field) (form : Form) (content : Content) (mixed : Bool) (r : Result (Unit {0}) SchemaError) → mixed ≡ false →
    OnOk r (values_fault w (Some content) (values_of f.items) ≡ None) → OnOk r (FormedPasses w f form content mixed)
formed_ok w f form content mixed (Ok x) alone clean = λ m before takes is. formed_passes w m before f form content takes (is ∙ alone) clean
formed_ok w f form content mixed (Err e) alone clean = clean

pub formed_err : (w : Written) (f : Field) (form : Form) (content : Content) (mixed : Bool) (r : Result (Unit {0}) SchemaError) → mixed ≡ false →
    IfErr r (Refuses (values_fault w (Some content) (values_of f.items))) → IfErr r (FormedStops w f form content mixed)
formed_err w f form content mixed (Ok x) alone refused = refused
formed_err w f form content mixed (Err e) alone refused = λ m before takes is. formed_stops w m before f form content takes (is ∙ alone) e refused

pub no_strategy_field : (text : List ℕ) → bytes_eq text (codes "exprs") ≡ false → bytes_eq text (codes "variables") ≡ false →
    bytes_eq text (codes "variable_selection_strategy") ≡ false → bytes_eq text (codes "domain_reduction_strategy") ≡ false →
    use_in (table_of strategy_message) text ≡ None
no_strategy_field text a b c d = rw (a, b, c, d) refl
