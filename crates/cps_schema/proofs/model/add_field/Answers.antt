-- A field of a name adds what that name takes, and any other is refused.
use Rattle.std.specs.Option.{option_to_list}
use Rattle.std.proofs.Common.{◌≡◌, ◌++◌, List, ℕ, map, codes, true, is_some, refl, append_assoc}
use Rattle.std.proofs.lemmas.List.{map-append}
use Rattle.std.proofs.lemmas.Result.{on_ok_weaker}
use Rattle.cps_textproto.specs.Trees.{values_of}
use Rattle.cps_schema.specs.declared.number.Number.TheVariants.{Int32}
use Rattle.cps_schema.specs.Inputs.{written_of}
use Rattle.cps_schema.specs.Written.{token_text}
use Rattle.cps_schema.specs.Tables.{model_message, variable_message, constraint_message, objective_message, strategy_message, hint_message, text, message, number}
use Rattle.cps_schema.specs.Readings.{value_numbers, value_texts, value_messages, read_variable, read_constraint, read_objective, read_strategy, read_hint, messages}
use Rattle.cps_schema.specs.Parts.{model_slots}
use Rattle.cps_schema.proofs.Steps.{same_name, other_name, table_use, repeated_passes, repeated_stops, refused_stops, if_passes, if_stops, closable_passes, closable_refused}
use Rattle.cps_schema.specs.Slots.{AreGivenSlots}
use Rattle.cps_schema.proofs.Slots.{given_after, slot_passes, slot_stops}
use Rattle.cps_schema.proofs.ModelFields.{no_model_field}
use Rattle.cps_schema.proofs.model.add_field.Goals as goal

pub returns-then-same_text-clause-passes : goal.returns-then-same_text-clause-passes
returns-then-same_text-clause-passes c =
    let w = written_of c.args.input.now in
    let f = c.args.field.now in
    let name : token_text w f.name ≡ codes "name" = same_name c.same_text.ensures c.if-same_text.true c.token_text-name.ensures in
    slot_passes w model_message f (text) c.set_name.result (λ (before : List (List ℕ)). AreGivenSlots (model_slots c.args.parts.now) before) (λ (before : List (List ℕ)). AreGivenSlots (model_slots (record c.args.parts.now { name = c.set_name.new.slot })) before)
    (is_some c.args.parts.now.name) (table_use _ _ _ _ name refl) c.set_name.ensures.passes
    (λ before given. rw name given.0)
    (on_ok_weaker c.set_name.result
    (λ (some : is_some c.set_name.new.slot ≡ true) before given.
    rw some (given_after (token_text w f.name) (codes "name") (model_slots c.args.parts.now) before name given))
    c.set_name.ensures.some)

pub returns-then-same_text-clause-read : goal.returns-then-same_text-clause-read
returns-then-same_text-clause-read c =
    let w = written_of c.args.input.now in
    let f = c.args.field.now in
    let name : token_text w f.name ≡ codes "name" = same_name c.same_text.ensures c.if-same_text.true c.token_text-name.ensures in
    on_ok_weaker c.set_name.result
    (λ (added : option_to_list c.set_name.new.slot ≡ option_to_list c.args.parts.now.name ++ value_texts w (values_of f.items)) rest.
    rw (name, added, append_assoc) refl)
    c.set_name.ensures.added

pub returns-then-same_text-clause-err : goal.returns-then-same_text-clause-err
returns-then-same_text-clause-err c =
    let w = written_of c.args.input.now in
    let f = c.args.field.now in
    let name : token_text w f.name ≡ codes "name" = same_name c.same_text.ensures c.if-same_text.true c.token_text-name.ensures in
    slot_stops w model_message f (text) c.set_name.result (λ (before : List (List ℕ)). AreGivenSlots (model_slots c.args.parts.now) before)
    (is_some c.args.parts.now.name) (table_use _ _ _ _ name refl) c.set_name.ensures.err (λ before given. rw name given.0)

pub returns-then-same_text-2-clause-passes : goal.returns-then-same_text-2-clause-passes
returns-then-same_text-2-clause-passes c =
    let w = written_of c.args.input.now in
    let f = c.args.field.now in
    let name : token_text w f.name ≡ codes "variables" = same_name c.same_text-else-same_text.ensures c.if-same_text-2.true c.token_text-name.ensures in
    if_passes w model_message f (λ (before : List (List ℕ)). AreGivenSlots (model_slots c.args.parts.now) before) (λ (before : List (List ℕ)). AreGivenSlots (model_slots c.args.parts.now) before) c.add_messages.result
    (repeated_passes w model_message f (message variable_message) c.add_messages.result (table_use _ _ _ _ name refl) c.add_messages.ensures.fault)
    (λ before given. given_after (token_text w f.name) (codes "variables") (model_slots c.args.parts.now) before name given)

pub returns-then-same_text-2-clause-read : goal.returns-then-same_text-2-clause-read
returns-then-same_text-2-clause-read c =
    let w = written_of c.args.input.now in
    let f = c.args.field.now in
    let name : token_text w f.name ≡ codes "variables" = same_name c.same_text-else-same_text.ensures c.if-same_text-2.true c.token_text-name.ensures in
    on_ok_weaker c.add_messages.result
    (λ (added : c.add_messages.new.values.items ≡ c.args.parts.now.variables.items ++ map (read_variable w) (value_messages (values_of f.items))) rest.
    rw (name, map-append (read_variable w) (value_messages (values_of f.items)) (messages w (codes "variables") rest), added, append_assoc) refl)
    c.add_messages.ensures.added

pub returns-then-same_text-2-clause-err : goal.returns-then-same_text-2-clause-err
returns-then-same_text-2-clause-err c =
    let w = written_of c.args.input.now in
    let f = c.args.field.now in
    let name : token_text w f.name ≡ codes "variables" = same_name c.same_text-else-same_text.ensures c.if-same_text-2.true c.token_text-name.ensures in
    if_stops w model_message f (λ (before : List (List ℕ)). AreGivenSlots (model_slots c.args.parts.now) before) c.add_messages.result
    (repeated_stops w model_message f (message variable_message) c.add_messages.result (table_use _ _ _ _ name refl) c.add_messages.ensures.err)

pub returns-then-same_text-3-clause-passes : goal.returns-then-same_text-3-clause-passes
returns-then-same_text-3-clause-passes c =
    let w = written_of c.args.input.now in
    let f = c.args.field.now in
    let name : token_text w f.name ≡ codes "constraints" = same_name c.same_text-else-same_text-2.ensures c.if-same_text-3.true c.token_text-name.ensures in
    if_passes w model_message f (λ (before : List (List ℕ)). AreGivenSlots (model_slots c.args.parts.now) before) (λ (before : List (List ℕ)). AreGivenSlots (model_slots c.args.parts.now) before) c.add_messages-then-same_text-3.result
    (repeated_passes w model_message f (message constraint_message) c.add_messages-then-same_text-3.result (table_use _ _ _ _ name refl) c.add_messages-then-same_text-3.ensures.fault)
    (λ before given. given_after (token_text w f.name) (codes "constraints") (model_slots c.args.parts.now) before name given)

pub returns-then-same_text-3-clause-read : goal.returns-then-same_text-3-clause-read
returns-then-same_text-3-clause-read c =
    let w = written_of c.args.input.now in
    let f = c.args.field.now in
    let name : token_text w f.name ≡ codes "constraints" = same_name c.same_text-else-same_text-2.ensures c.if-same_text-3.true c.token_text-name.ensures in
    on_ok_weaker c.add_messages-then-same_text-3.result
    (λ (added : c.add_messages-then-same_text-3.new.values.items ≡ c.args.parts.now.constraints.items ++ map (read_constraint w) (value_messages (values_of f.items))) rest.
    rw (name, map-append (read_constraint w) (value_messages (values_of f.items)) (messages w (codes "constraints") rest), added, append_assoc) refl)
    c.add_messages-then-same_text-3.ensures.added

pub returns-then-same_text-3-clause-err : goal.returns-then-same_text-3-clause-err
returns-then-same_text-3-clause-err c =
    let w = written_of c.args.input.now in
    let f = c.args.field.now in
    let name : token_text w f.name ≡ codes "constraints" = same_name c.same_text-else-same_text-2.ensures c.if-same_text-3.true c.token_text-name.ensures in
    if_stops w model_message f (λ (before : List (List ℕ)). AreGivenSlots (model_slots c.args.parts.now) before) c.add_messages-then-same_text-3.result
    (repeated_stops w model_message f (message constraint_message) c.add_messages-then-same_text-3.result (table_use _ _ _ _ name refl) c.add_messages-then-same_text-3.ensures.err)

pub returns-then-same_text-4-clause-passes : goal.returns-then-same_text-4-clause-passes
returns-then-same_text-4-clause-passes c =
    let w = written_of c.args.input.now in
    let f = c.args.field.now in
    let name : token_text w f.name ≡ codes "objective" = same_name c.same_text-else-same_text-3.ensures c.if-same_text-4.true c.token_text-name.ensures in
    slot_passes w model_message f (message objective_message) c.set_once.result (λ (before : List (List ℕ)). AreGivenSlots (model_slots c.args.parts.now) before) (λ (before : List (List ℕ)). AreGivenSlots (model_slots (record c.args.parts.now { objective = c.set_once.new.slot })) before)
    (is_some c.args.parts.now.objective) (table_use _ _ _ _ name refl) c.set_once.ensures.passes
    (λ before given. rw name given.1.0)
    (on_ok_weaker c.set_once.result
    (λ (some : is_some c.set_once.new.slot ≡ true) before given.
    rw some (given_after (token_text w f.name) (codes "objective") (model_slots c.args.parts.now) before name given))
    c.set_once.ensures.some)

pub returns-then-same_text-4-clause-read : goal.returns-then-same_text-4-clause-read
returns-then-same_text-4-clause-read c =
    let w = written_of c.args.input.now in
    let f = c.args.field.now in
    let name : token_text w f.name ≡ codes "objective" = same_name c.same_text-else-same_text-3.ensures c.if-same_text-4.true c.token_text-name.ensures in
    on_ok_weaker c.set_once.result
    (λ (added : option_to_list c.set_once.new.slot ≡ option_to_list c.args.parts.now.objective ++ map (read_objective w) (value_messages (values_of f.items))) rest.
    rw (name, map-append (read_objective w) (value_messages (values_of f.items)) (messages w (codes "objective") rest), added, append_assoc) refl)
    c.set_once.ensures.added

pub returns-then-same_text-4-clause-err : goal.returns-then-same_text-4-clause-err
returns-then-same_text-4-clause-err c =
    let w = written_of c.args.input.now in
    let f = c.args.field.now in
    let name : token_text w f.name ≡ codes "objective" = same_name c.same_text-else-same_text-3.ensures c.if-same_text-4.true c.token_text-name.ensures in
    slot_stops w model_message f (message objective_message) c.set_once.result (λ (before : List (List ℕ)). AreGivenSlots (model_slots c.args.parts.now) before)
    (is_some c.args.parts.now.objective) (table_use _ _ _ _ name refl) c.set_once.ensures.err (λ before given. rw name given.1.0)

pub returns-then-same_text-5-clause-passes : goal.returns-then-same_text-5-clause-passes
returns-then-same_text-5-clause-passes c =
    let w = written_of c.args.input.now in
    let f = c.args.field.now in
    let name : token_text w f.name ≡ codes "search_strategy" = same_name c.same_text-else-same_text-4.ensures c.if-same_text-5.true c.token_text-name.ensures in
    if_passes w model_message f (λ (before : List (List ℕ)). AreGivenSlots (model_slots c.args.parts.now) before) (λ (before : List (List ℕ)). AreGivenSlots (model_slots c.args.parts.now) before) c.add_messages-then-same_text-5.result
    (repeated_passes w model_message f (message strategy_message) c.add_messages-then-same_text-5.result (table_use _ _ _ _ name refl) c.add_messages-then-same_text-5.ensures.fault)
    (λ before given. given_after (token_text w f.name) (codes "search_strategy") (model_slots c.args.parts.now) before name given)

pub returns-then-same_text-5-clause-read : goal.returns-then-same_text-5-clause-read
returns-then-same_text-5-clause-read c =
    let w = written_of c.args.input.now in
    let f = c.args.field.now in
    let name : token_text w f.name ≡ codes "search_strategy" = same_name c.same_text-else-same_text-4.ensures c.if-same_text-5.true c.token_text-name.ensures in
    on_ok_weaker c.add_messages-then-same_text-5.result
    (λ (added : c.add_messages-then-same_text-5.new.values.items ≡ c.args.parts.now.strategies.items ++ map (read_strategy w) (value_messages (values_of f.items))) rest.
    rw (name, map-append (read_strategy w) (value_messages (values_of f.items)) (messages w (codes "search_strategy") rest), added, append_assoc) refl)
    c.add_messages-then-same_text-5.ensures.added

pub returns-then-same_text-5-clause-err : goal.returns-then-same_text-5-clause-err
returns-then-same_text-5-clause-err c =
    let w = written_of c.args.input.now in
    let f = c.args.field.now in
    let name : token_text w f.name ≡ codes "search_strategy" = same_name c.same_text-else-same_text-4.ensures c.if-same_text-5.true c.token_text-name.ensures in
    if_stops w model_message f (λ (before : List (List ℕ)). AreGivenSlots (model_slots c.args.parts.now) before) c.add_messages-then-same_text-5.result
    (repeated_stops w model_message f (message strategy_message) c.add_messages-then-same_text-5.result (table_use _ _ _ _ name refl) c.add_messages-then-same_text-5.ensures.err)

pub returns-then-same_text-6-clause-passes : goal.returns-then-same_text-6-clause-passes
returns-then-same_text-6-clause-passes c =
    let w = written_of c.args.input.now in
    let f = c.args.field.now in
    let name : token_text w f.name ≡ codes "solution_hint" = same_name c.same_text-else-same_text-5.ensures c.if-same_text-6.true c.token_text-name.ensures in
    slot_passes w model_message f (message hint_message) c.set_once-then-same_text-6.result (λ (before : List (List ℕ)). AreGivenSlots (model_slots c.args.parts.now) before) (λ (before : List (List ℕ)). AreGivenSlots (model_slots (record c.args.parts.now { hint = c.set_once-then-same_text-6.new.slot })) before)
    (is_some c.args.parts.now.hint) (table_use _ _ _ _ name refl) c.set_once-then-same_text-6.ensures.passes
    (λ before given. rw name given.1.1.0)
    (on_ok_weaker c.set_once-then-same_text-6.result
    (λ (some : is_some c.set_once-then-same_text-6.new.slot ≡ true) before given.
    rw some (given_after (token_text w f.name) (codes "solution_hint") (model_slots c.args.parts.now) before name given))
    c.set_once-then-same_text-6.ensures.some)

pub returns-then-same_text-6-clause-read : goal.returns-then-same_text-6-clause-read
returns-then-same_text-6-clause-read c =
    let w = written_of c.args.input.now in
    let f = c.args.field.now in
    let name : token_text w f.name ≡ codes "solution_hint" = same_name c.same_text-else-same_text-5.ensures c.if-same_text-6.true c.token_text-name.ensures in
    on_ok_weaker c.set_once-then-same_text-6.result
    (λ (added : option_to_list c.set_once-then-same_text-6.new.slot ≡ option_to_list c.args.parts.now.hint ++ map (read_hint w) (value_messages (values_of f.items))) rest.
    rw (name, map-append (read_hint w) (value_messages (values_of f.items)) (messages w (codes "solution_hint") rest), added, append_assoc) refl)
    c.set_once-then-same_text-6.ensures.added

pub returns-then-same_text-6-clause-err : goal.returns-then-same_text-6-clause-err
returns-then-same_text-6-clause-err c =
    let w = written_of c.args.input.now in
    let f = c.args.field.now in
    let name : token_text w f.name ≡ codes "solution_hint" = same_name c.same_text-else-same_text-5.ensures c.if-same_text-6.true c.token_text-name.ensures in
    slot_stops w model_message f (message hint_message) c.set_once-then-same_text-6.result (λ (before : List (List ℕ)). AreGivenSlots (model_slots c.args.parts.now) before)
    (is_some c.args.parts.now.hint) (table_use _ _ _ _ name refl) c.set_once-then-same_text-6.ensures.err (λ before given. rw name given.1.1.0)

pub returns-then-same_text-7-clause-passes : goal.returns-then-same_text-7-clause-passes
returns-then-same_text-7-clause-passes c =
    let w = written_of c.args.input.now in
    let f = c.args.field.now in
    let name : token_text w f.name ≡ codes "assumptions" = same_name c.same_text-else-same_text-6.ensures c.if-same_text-7.true c.token_text-name.ensures in
    if_passes w model_message f (λ (before : List (List ℕ)). AreGivenSlots (model_slots c.args.parts.now) before) (λ (before : List (List ℕ)). AreGivenSlots (model_slots c.args.parts.now) before) c.add_assumptions.result
    (closable_passes w model_message f (number Int32) c.add_assumptions.result (table_use _ _ _ _ name refl) c.add_assumptions.ensures.passes)
    (λ before given. given_after (token_text w f.name) (codes "assumptions") (model_slots c.args.parts.now) before name given)

pub returns-then-same_text-7-clause-read : goal.returns-then-same_text-7-clause-read
returns-then-same_text-7-clause-read c =
    let w = written_of c.args.input.now in
    let f = c.args.field.now in
    let name : token_text w f.name ≡ codes "assumptions" = same_name c.same_text-else-same_text-6.ensures c.if-same_text-7.true c.token_text-name.ensures in
    on_ok_weaker c.add_assumptions.result
    (λ (added : c.add_assumptions.new.list.items ≡ c.args.parts.now.assumptions.items ++ value_numbers w (values_of f.items)) rest.
    rw (name, added, append_assoc) refl)
    c.add_assumptions.ensures.added

pub returns-then-same_text-7-clause-err : goal.returns-then-same_text-7-clause-err
returns-then-same_text-7-clause-err c =
    let w = written_of c.args.input.now in
    let f = c.args.field.now in
    let name : token_text w f.name ≡ codes "assumptions" = same_name c.same_text-else-same_text-6.ensures c.if-same_text-7.true c.token_text-name.ensures in
    if_stops w model_message f (λ (before : List (List ℕ)). AreGivenSlots (model_slots c.args.parts.now) before) c.add_assumptions.result
    (closable_refused w model_message f (number Int32) c.add_assumptions.result (table_use _ _ _ _ name refl) c.add_assumptions.ensures.err)

pub returns-else-same_text-7-clause-err : goal.returns-else-same_text-7-clause-err
returns-else-same_text-7-clause-err c = λ before given.
    let w = written_of c.args.input.now in
    let f = c.args.field.now in
    let text = token_text w f.name in
    let name = c.token_text-name in
    let other = no_model_field text
    (other_name (codes "name") c.same_text.ensures c.if-same_text.false name.ensures)
    (other_name (codes "variables") c.same_text-else-same_text.ensures c.if-same_text-2.false name.ensures)
    (other_name (codes "constraints") c.same_text-else-same_text-2.ensures c.if-same_text-3.false name.ensures)
    (other_name (codes "objective") c.same_text-else-same_text-3.ensures c.if-same_text-4.false name.ensures)
    (other_name (codes "search_strategy") c.same_text-else-same_text-4.ensures c.if-same_text-5.false name.ensures)
    (other_name (codes "solution_hint") c.same_text-else-same_text-5.ensures c.if-same_text-6.false name.ensures)
    (other_name (codes "assumptions") c.same_text-else-same_text-6.ensures c.if-same_text-7.false name.ensures) in
    rw c.refused_field.ensures (refused_stops w model_message f other before)
