-- A field of a name is read as that name says, one that names a kind as that kind, and any other is refused.
use Rattle.std.specs.Option.{option_to_list}
use Rattle.std.proofs.Common.{◌≡◌, ◌++◌, List, ℕ, codes, Some, None, true, is_some, refl, append_assoc}
use Rattle.std.proofs.lemmas.Result.{on_ok_weaker}
use Rattle.cps_textproto.specs.Trees.{values_of}
use Rattle.cps_schema.specs.declared.number.Number.TheVariants.{Int32}
use Rattle.cps_schema.specs.Inputs.{written_of}
use Rattle.cps_schema.specs.Written.{token_text}
use Rattle.cps_schema.specs.Tables.{constraint_message, number, text}
use Rattle.cps_schema.specs.Readings.{value_numbers, value_texts}
use Rattle.cps_schema.specs.Parts.{IsConstraintGiven}
use Rattle.cps_schema.proofs.Steps.{same_name, other_name, table_use, repeated_passes, repeated_stops, refused_stops, if_passes, if_stops}
use Rattle.cps_schema.proofs.GivenKinds.{no_constraint_field, constraint_kept, name_given_first, kind_field_passes, kind_field_read, kind_field_stops, named_as}
use Rattle.cps_schema.proofs.Slots.{slot_passes, slot_stops}
use Rattle.cps_schema.proofs.constraint.add_field.Goals as goal

pub returns-then-same_text-clause-passes : goal.returns-then-same_text-clause-passes
returns-then-same_text-clause-passes c =
    let w = written_of c.args.input.now in
    let f = c.args.field.now in
    let name : token_text w f.name ≡ codes "name" = same_name c.same_text.ensures c.if-same_text.true c.token_text-name.ensures in
    slot_passes w constraint_message f text c.set_name.result (λ (before : List (List ℕ)). IsConstraintGiven c.args.parts.now before)
    (λ (before : List (List ℕ)). IsConstraintGiven (record c.args.parts.now { name = c.set_name.new.slot }) before)
    (is_some c.args.parts.now.name) (table_use _ _ _ _ name refl) c.set_name.ensures.passes
    (λ before given. rw name given.name)
    (on_ok_weaker c.set_name.result
    (λ (some : is_some c.set_name.new.slot ≡ true) before given.
    name_given_first c.args.parts.now (record c.args.parts.now { name = c.set_name.new.slot }) refl some (token_text w f.name) name before given)
    c.set_name.ensures.some)

pub returns-then-same_text-clause-read : goal.returns-then-same_text-clause-read
returns-then-same_text-clause-read c =
    let w = written_of c.args.input.now in
    let f = c.args.field.now in
    let name : token_text w f.name ≡ codes "name" = same_name c.same_text.ensures c.if-same_text.true c.token_text-name.ensures in
    on_ok_weaker c.set_name.result
    (λ (added : option_to_list c.set_name.new.slot ≡ option_to_list c.args.parts.now.name ++ value_texts w (values_of f.items)) rest.
    rw (name, added, append_assoc) refl)
    c.set_name.ensures.added

pub returns-then-same_text-clause-err : goal.returns-then-same_text-clause-err
returns-then-same_text-clause-err c =
    let w = written_of c.args.input.now in
    let f = c.args.field.now in
    let name : token_text w f.name ≡ codes "name" = same_name c.same_text.ensures c.if-same_text.true c.token_text-name.ensures in
    slot_stops w constraint_message f text c.set_name.result (λ (before : List (List ℕ)). IsConstraintGiven c.args.parts.now before)
    (is_some c.args.parts.now.name) (table_use _ _ _ _ name refl) c.set_name.ensures.err (λ before given. rw name given.name)

pub returns-then-same_text-2-clause-passes : goal.returns-then-same_text-2-clause-passes
returns-then-same_text-2-clause-passes c =
    let w = written_of c.args.input.now in
    let f = c.args.field.now in
    let name : token_text w f.name ≡ codes "enforcement_literal" = same_name c.same_text-else-same_text.ensures c.if-same_text-2.true c.token_text-name.ensures in
    if_passes w constraint_message f (IsConstraintGiven c.args.parts.now) (IsConstraintGiven (record c.args.parts.now { enforcement = c.add_refs.new.list })) c.add_refs.result
    (repeated_passes w constraint_message f (number Int32) c.add_refs.result (table_use _ _ _ _ name refl) c.add_refs.ensures.fault)
    (constraint_kept c.args.parts.now (record c.args.parts.now { enforcement = c.add_refs.new.list }) refl refl (token_text w f.name) name)

pub returns-then-same_text-2-clause-read : goal.returns-then-same_text-2-clause-read
returns-then-same_text-2-clause-read c =
    let w = written_of c.args.input.now in
    let f = c.args.field.now in
    let name : token_text w f.name ≡ codes "enforcement_literal" = same_name c.same_text-else-same_text.ensures c.if-same_text-2.true c.token_text-name.ensures in
    on_ok_weaker c.add_refs.result
    (λ (added : c.add_refs.new.list.items ≡ c.args.parts.now.enforcement.items ++ value_numbers w (values_of f.items)) rest.
    rw (name, added, append_assoc) refl)
    c.add_refs.ensures.added

pub returns-then-same_text-2-clause-err : goal.returns-then-same_text-2-clause-err
returns-then-same_text-2-clause-err c =
    let w = written_of c.args.input.now in
    let f = c.args.field.now in
    let name : token_text w f.name ≡ codes "enforcement_literal" = same_name c.same_text-else-same_text.ensures c.if-same_text-2.true c.token_text-name.ensures in
    if_stops w constraint_message f (IsConstraintGiven c.args.parts.now) c.add_refs.result
    (repeated_stops w constraint_message f (number Int32) c.add_refs.result (table_use _ _ _ _ name refl) c.add_refs.ensures.err)

pub returns-in-Some-clause-passes : goal.returns-in-Some-clause-passes
returns-in-Some-clause-passes c =
    let w = written_of c.args.input.now in
    let f = c.args.field.now in
    let named = named_as c.token_text-name.result.now (token_text w f.name) (Some c.in-Some.kind) c.token_text-name.ensures c.in-Some.ensures in
    kind_field_passes w f c.in-Some.kind c.set_kind.result c.args.parts.now (record c.args.parts.now { given = c.set_kind.new.given }) refl named c.set_kind.ensures.passes c.set_kind.ensures.none c.set_kind.ensures.set

pub returns-in-Some-clause-read : goal.returns-in-Some-clause-read
returns-in-Some-clause-read c =
    let w = written_of c.args.input.now in
    let f = c.args.field.now in
    let named = named_as c.token_text-name.result.now (token_text w f.name) (Some c.in-Some.kind) c.token_text-name.ensures c.in-Some.ensures in
    kind_field_read w f c.in-Some.kind c.set_kind.result c.args.parts.now (record c.args.parts.now { given = c.set_kind.new.given }) refl refl named c.set_kind.ensures.added

pub returns-in-Some-clause-err : goal.returns-in-Some-clause-err
returns-in-Some-clause-err c =
    let w = written_of c.args.input.now in
    let f = c.args.field.now in
    let named = named_as c.token_text-name.result.now (token_text w f.name) (Some c.in-Some.kind) c.token_text-name.ensures c.in-Some.ensures in
    kind_field_stops w f c.in-Some.kind c.set_kind.result c.args.parts.now named c.set_kind.ensures.err

pub returns-in_default-clause-err : goal.returns-in_default-clause-err
returns-in_default-clause-err c = λ before given.
    let w = written_of c.args.input.now in
    let f = c.args.field.now in
    let text = token_text w f.name in
    let name = c.token_text-name in
    let none = named_as name.result.now text None name.ensures c.in_default.ensures in
    let other = no_constraint_field text
    (other_name (codes "name") c.same_text.ensures c.if-same_text.false name.ensures)
    (other_name (codes "enforcement_literal") c.same_text-else-same_text.ensures c.if-same_text-2.false name.ensures) none in
    rw c.refused_field.ensures (refused_stops w constraint_message f other before)
