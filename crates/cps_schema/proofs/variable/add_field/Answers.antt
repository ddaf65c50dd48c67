-- A field of a name adds what that name takes, and any other is refused.
use Rattle.std.specs.Option.{option_to_list}
use Rattle.std.proofs.Common.{◌≡◌, ◌++◌, List, ℕ, codes, None, true, is_some, refl, append_assoc}
use Rattle.std.proofs.lemmas.Result.{on_ok_weaker}
use Rattle.cps_textproto.specs.Trees.{values_of}
use Rattle.cps_schema.specs.declared.number.Number.TheVariants.{Int64}
use Rattle.cps_schema.specs.Inputs.{written_of}
use Rattle.cps_schema.specs.Written.{token_text}
use Rattle.cps_schema.specs.Tables.{variable_message, number, text, use_in, table_of}
use Rattle.cps_schema.specs.Readings.{value_numbers, value_texts}
use Rattle.cps_schema.specs.Parts.{variable_slots}
use Rattle.cps_schema.proofs.Steps.{same_name, table_use, repeated_passes, repeated_stops, refused_stops, if_passes, if_stops, other_name}
use Rattle.cps_schema.specs.Slots.{AreGivenSlots}
use Rattle.cps_schema.proofs.Slots.{given_after, slot_passes, slot_stops}
use Rattle.cps_schema.proofs.variable.add_field.Goals as goal

pub returns-then-same_text-clause-passes : goal.returns-then-same_text-clause-passes
returns-then-same_text-clause-passes c =
    let w = written_of c.args.input.now in
    let f = c.args.field.now in
    let name : token_text w f.name ≡ codes "name" = same_name c.same_text.ensures c.if-same_text.true c.token_text-name.ensures in
    slot_passes w variable_message f (text) c.set_name.result (λ (before : List (List ℕ)). AreGivenSlots (variable_slots c.args.parts.now) before) (λ (before : List (List ℕ)). AreGivenSlots (variable_slots (record c.args.parts.now { name = c.set_name.new.slot })) before)
    (is_some c.args.parts.now.name) (table_use _ _ _ _ name refl) c.set_name.ensures.passes
    (λ before given. rw name given.0)
    (on_ok_weaker c.set_name.result
    (λ (some : is_some c.set_name.new.slot ≡ true) before given.
    rw some (given_after (token_text w f.name) (codes "name") (variable_slots c.args.parts.now) before name given))
    c.set_name.ensures.some)

pub returns-then-same_text-clause-read : goal.returns-then-same_text-clause-read
returns-then-same_text-clause-read c =
    let w = written_of c.args.input.now in
    let f = c.args.field.now in
    let name : token_text w f.name ≡ codes "name" = same_name c.same_text.ensures c.if-same_text.true c.token_text-name.ensures in
    on_ok_weaker c.set_name.result
    (λ (added : option_to_list c.set_name.new.slot ≡ option_to_list c.args.parts.now.name ++ value_texts w (values_of f.items)) rest.
    rw (name, added, append_assoc) refl)
    c.set_name.ensures.added

pub returns-then-same_text-clause-err : goal.returns-then-same_text-clause-err
returns-then-same_text-clause-err c =
    let w = written_of c.args.input.now in
    let f = c.args.field.now in
    let name : token_text w f.name ≡ codes "name" = same_name c.same_text.ensures c.if-same_text.true c.token_text-name.ensures in
    slot_stops w variable_message f (text) c.set_name.result (λ (before : List (List ℕ)). AreGivenSlots (variable_slots c.args.parts.now) before)
    (is_some c.args.parts.now.name) (table_use _ _ _ _ name refl) c.set_name.ensures.err (λ before given. rw name given.0)

pub returns-then-same_text-2-clause-passes : goal.returns-then-same_text-2-clause-passes
returns-then-same_text-2-clause-passes c =
    let w = written_of c.args.input.now in
    let f = c.args.field.now in
    let name : token_text w f.name ≡ codes "domain" = same_name c.same_text-else-same_text.ensures c.if-same_text-2.true c.token_text-name.ensures in
    if_passes w variable_message f (λ (before : List (List ℕ)). AreGivenSlots (variable_slots c.args.parts.now) before) (λ (before : List (List ℕ)). AreGivenSlots (variable_slots c.args.parts.now) before) c.add_ints.result
    (repeated_passes w variable_message f (number Int64) c.add_ints.result (table_use _ _ _ _ name refl) c.add_ints.ensures.fault)
    (λ before given. given_after (token_text w f.name) (codes "domain") (variable_slots c.args.parts.now) before name given)

pub returns-then-same_text-2-clause-read : goal.returns-then-same_text-2-clause-read
returns-then-same_text-2-clause-read c =
    let w = written_of c.args.input.now in
    let f = c.args.field.now in
    let name : token_text w f.name ≡ codes "domain" = same_name c.same_text-else-same_text.ensures c.if-same_text-2.true c.token_text-name.ensures in
    on_ok_weaker c.add_ints.result
    (λ (added : c.add_ints.new.list.items ≡ c.args.parts.now.domain.items ++ value_numbers w (values_of f.items)) rest.
    rw (name, added, append_assoc) refl)
    c.add_ints.ensures.added

pub returns-then-same_text-2-clause-err : goal.returns-then-same_text-2-clause-err
returns-then-same_text-2-clause-err c =
    let w = written_of c.args.input.now in
    let f = c.args.field.now in
    let name : token_text w f.name ≡ codes "domain" = same_name c.same_text-else-same_text.ensures c.if-same_text-2.true c.token_text-name.ensures in
    if_stops w variable_message f (λ (before : List (List ℕ)). AreGivenSlots (variable_slots c.args.parts.now) before) c.add_ints.result
    (repeated_stops w variable_message f (number Int64) c.add_ints.result (table_use _ _ _ _ name refl) c.add_ints.ensures.err)

pub returns-else-same_text-2-clause-err : goal.returns-else-same_text-2-clause-err
returns-else-same_text-2-clause-err c = λ before given.
    let w = written_of c.args.input.now in
    let f = c.args.field.now in
    let other : use_in (table_of variable_message) (token_text w f.name) ≡ None = rw (other_name (codes "name") c.same_text.ensures c.if-same_text.false c.token_text-name.ensures, other_name (codes "domain") c.same_text-else-same_text.ensures c.if-same_text-2.false c.token_text-name.ensures) refl in
    rw c.refused_field.ensures (refused_stops w variable_message f other before)
