-- A field of a name adds what that name takes, and any other is refused.
use Rattle.std.specs.Option.{option_to_list}
use Rattle.std.proofs.Common.{◌≡◌, ◌++◌, codes, None, refl, append_assoc}
use Rattle.std.proofs.lemmas.Result.{on_ok_weaker}
use Rattle.cps_textproto.specs.Trees.{values_of}
use Rattle.cps_schema.specs.declared.number.Number.TheVariants.{Int32, Int64}
use Rattle.cps_schema.specs.Inputs.{written_of}
use Rattle.cps_schema.specs.Written.{token_text}
use Rattle.cps_schema.specs.Tables.{objective_message, number, use_in, table_of}
use Rattle.cps_schema.specs.Readings.{value_numbers}
use Rattle.cps_schema.specs.Parts.{IsGivenObjective}
use Rattle.cps_schema.proofs.Steps.{same_name, table_use, repeated_passes, repeated_stops, refused_stops, if_passes, if_stops, other_name}
use Rattle.cps_schema.proofs.Objectives.{other_given, offset_passes, offset_stops, scaling_passes, scaling_stops}
use Rattle.cps_schema.proofs.objective.add_field.Goals as goal

pub returns-then-same_text-clause-passes : goal.returns-then-same_text-clause-passes
returns-then-same_text-clause-passes c =
    let w = written_of c.args.input.now in
    let f = c.args.field.now in
    let name : token_text w f.name ≡ codes "vars" = same_name c.same_text.ensures c.if-same_text.true c.token_text-name.ensures in
    if_passes w objective_message f (IsGivenObjective c.args.parts.now.offset c.args.parts.now.scaling) (IsGivenObjective c.args.parts.now.offset c.args.parts.now.scaling) c.add_refs.result
    (repeated_passes w objective_message f (number Int32) c.add_refs.result (table_use _ _ _ _ name refl) c.add_refs.ensures.fault)
    (other_given c.args.parts.now.offset c.args.parts.now.scaling (token_text w f.name) (codes "vars") name refl refl)

pub returns-then-same_text-clause-read : goal.returns-then-same_text-clause-read
returns-then-same_text-clause-read c =
    let w = written_of c.args.input.now in
    let f = c.args.field.now in
    let name : token_text w f.name ≡ codes "vars" = same_name c.same_text.ensures c.if-same_text.true c.token_text-name.ensures in
    on_ok_weaker c.add_refs.result
    (λ (added : c.add_refs.new.list.items ≡ c.args.parts.now.vars.items ++ value_numbers w (values_of f.items)) rest.
    rw (name, added, append_assoc) refl)
    c.add_refs.ensures.added

pub returns-then-same_text-clause-err : goal.returns-then-same_text-clause-err
returns-then-same_text-clause-err c =
    let w = written_of c.args.input.now in
    let f = c.args.field.now in
    let name : token_text w f.name ≡ codes "vars" = same_name c.same_text.ensures c.if-same_text.true c.token_text-name.ensures in
    if_stops w objective_message f (IsGivenObjective c.args.parts.now.offset c.args.parts.now.scaling) c.add_refs.result
    (repeated_stops w objective_message f (number Int32) c.add_refs.result (table_use _ _ _ _ name refl) c.add_refs.ensures.err)

pub returns-then-same_text-2-clause-passes : goal.returns-then-same_text-2-clause-passes
returns-then-same_text-2-clause-passes c =
    let w = written_of c.args.input.now in
    let f = c.args.field.now in
    let name : token_text w f.name ≡ codes "coeffs" = same_name c.same_text-else-same_text.ensures c.if-same_text-2.true c.token_text-name.ensures in
    if_passes w objective_message f (IsGivenObjective c.args.parts.now.offset c.args.parts.now.scaling) (IsGivenObjective c.args.parts.now.offset c.args.parts.now.scaling) c.add_ints.result
    (repeated_passes w objective_message f (number Int64) c.add_ints.result (table_use _ _ _ _ name refl) c.add_ints.ensures.fault)
    (other_given c.args.parts.now.offset c.args.parts.now.scaling (token_text w f.name) (codes "coeffs") name refl refl)

pub returns-then-same_text-2-clause-read : goal.returns-then-same_text-2-clause-read
returns-then-same_text-2-clause-read c =
    let w = written_of c.args.input.now in
    let f = c.args.field.now in
    let name : token_text w f.name ≡ codes "coeffs" = same_name c.same_text-else-same_text.ensures c.if-same_text-2.true c.token_text-name.ensures in
    on_ok_weaker c.add_ints.result
    (λ (added : c.add_ints.new.list.items ≡ c.args.parts.now.coeffs.items ++ value_numbers w (values_of f.items)) rest.
    rw (name, added, append_assoc) refl)
    c.add_ints.ensures.added

pub returns-then-same_text-2-clause-err : goal.returns-then-same_text-2-clause-err
returns-then-same_text-2-clause-err c =
    let w = written_of c.args.input.now in
    let f = c.args.field.now in
    let name : token_text w f.name ≡ codes "coeffs" = same_name c.same_text-else-same_text.ensures c.if-same_text-2.true c.token_text-name.ensures in
    if_stops w objective_message f (IsGivenObjective c.args.parts.now.offset c.args.parts.now.scaling) c.add_ints.result
    (repeated_stops w objective_message f (number Int64) c.add_ints.result (table_use _ _ _ _ name refl) c.add_ints.ensures.err)

pub returns-then-same_text-3-clause-passes : goal.returns-then-same_text-3-clause-passes
returns-then-same_text-3-clause-passes c =
    let w = written_of c.args.input.now in
    let f = c.args.field.now in
    let name : token_text w f.name ≡ codes "offset" = same_name c.same_text-else-same_text-2.ensures c.if-same_text-3.true c.token_text-name.ensures in
    offset_passes w f c.set_number.result c.args.parts.now.offset c.set_number.new.slot c.args.parts.now.scaling name c.set_number.ensures.passes c.set_number.ensures.some

pub returns-then-same_text-3-clause-read : goal.returns-then-same_text-3-clause-read
returns-then-same_text-3-clause-read c =
    let w = written_of c.args.input.now in
    let f = c.args.field.now in
    let name : token_text w f.name ≡ codes "offset" = same_name c.same_text-else-same_text-2.ensures c.if-same_text-3.true c.token_text-name.ensures in
    on_ok_weaker c.set_number.result
    (λ (added : option_to_list c.set_number.new.slot ≡ option_to_list c.args.parts.now.offset ++ value_numbers w (values_of f.items)) rest.
    rw (name, added, append_assoc) refl)
    c.set_number.ensures.added

pub returns-then-same_text-3-clause-err : goal.returns-then-same_text-3-clause-err
returns-then-same_text-3-clause-err c =
    let w = written_of c.args.input.now in
    let f = c.args.field.now in
    let name : token_text w f.name ≡ codes "offset" = same_name c.same_text-else-same_text-2.ensures c.if-same_text-3.true c.token_text-name.ensures in
    offset_stops w f c.set_number.result c.args.parts.now.offset c.args.parts.now.scaling name c.set_number.ensures.err

pub returns-then-same_text-4-clause-passes : goal.returns-then-same_text-4-clause-passes
returns-then-same_text-4-clause-passes c =
    let w = written_of c.args.input.now in
    let f = c.args.field.now in
    let name : token_text w f.name ≡ codes "scaling_factor" = same_name c.same_text-else-same_text-3.ensures c.if-same_text-4.true c.token_text-name.ensures in
    scaling_passes w f c.set_number-then-same_text-4.result c.args.parts.now.scaling c.set_number-then-same_text-4.new.slot c.args.parts.now.offset name c.set_number-then-same_text-4.ensures.passes c.set_number-then-same_text-4.ensures.some

pub returns-then-same_text-4-clause-read : goal.returns-then-same_text-4-clause-read
returns-then-same_text-4-clause-read c =
    let w = written_of c.args.input.now in
    let f = c.args.field.now in
    let name : token_text w f.name ≡ codes "scaling_factor" = same_name c.same_text-else-same_text-3.ensures c.if-same_text-4.true c.token_text-name.ensures in
    on_ok_weaker c.set_number-then-same_text-4.result
    (λ (added : option_to_list c.set_number-then-same_text-4.new.slot ≡ option_to_list c.args.parts.now.scaling ++ value_numbers w (values_of f.items)) rest.
    rw (name, added, append_assoc) refl)
    c.set_number-then-same_text-4.ensures.added

pub returns-then-same_text-4-clause-err : goal.returns-then-same_text-4-clause-err
returns-then-same_text-4-clause-err c =
    let w = written_of c.args.input.now in
    let f = c.args.field.now in
    let name : token_text w f.name ≡ codes "scaling_factor" = same_name c.same_text-else-same_text-3.ensures c.if-same_text-4.true c.token_text-name.ensures in
    scaling_stops w f c.set_number-then-same_text-4.result c.args.parts.now.scaling c.args.parts.now.offset name c.set_number-then-same_text-4.ensures.err

pub returns-then-same_text-5-clause-passes : goal.returns-then-same_text-5-clause-passes
returns-then-same_text-5-clause-passes c =
    let w = written_of c.args.input.now in
    let f = c.args.field.now in
    let name : token_text w f.name ≡ codes "domain" = same_name c.same_text-else-same_text-4.ensures c.if-same_text-5.true c.token_text-name.ensures in
    if_passes w objective_message f (IsGivenObjective c.args.parts.now.offset c.args.parts.now.scaling) (IsGivenObjective c.args.parts.now.offset c.args.parts.now.scaling) c.add_ints-then-same_text-5.result
    (repeated_passes w objective_message f (number Int64) c.add_ints-then-same_text-5.result (table_use _ _ _ _ name refl) c.add_ints-then-same_text-5.ensures.fault)
    (other_given c.args.parts.now.offset c.args.parts.now.scaling (token_text w f.name) (codes "domain") name refl refl)

pub returns-then-same_text-5-clause-read : goal.returns-then-same_text-5-clause-read
returns-then-same_text-5-clause-read c =
    let w = written_of c.args.input.now in
    let f = c.args.field.now in
    let name : token_text w f.name ≡ codes "domain" = same_name c.same_text-else-same_text-4.ensures c.if-same_text-5.true c.token_text-name.ensures in
    on_ok_weaker c.add_ints-then-same_text-5.result
    (λ (added : c.add_ints-then-same_text-5.new.list.items ≡ c.args.parts.now.domain.items ++ value_numbers w (values_of f.items)) rest.
    rw (name, added, append_assoc) refl)
    c.add_ints-then-same_text-5.ensures.added

pub returns-then-same_text-5-clause-err : goal.returns-then-same_text-5-clause-err
returns-then-same_text-5-clause-err c =
    let w = written_of c.args.input.now in
    let f = c.args.field.now in
    let name : token_text w f.name ≡ codes "domain" = same_name c.same_text-else-same_text-4.ensures c.if-same_text-5.true c.token_text-name.ensures in
    if_stops w objective_message f (IsGivenObjective c.args.parts.now.offset c.args.parts.now.scaling) c.add_ints-then-same_text-5.result
    (repeated_stops w objective_message f (number Int64) c.add_ints-then-same_text-5.result (table_use _ _ _ _ name refl) c.add_ints-then-same_text-5.ensures.err)

pub returns-else-same_text-5-clause-err : goal.returns-else-same_text-5-clause-err
returns-else-same_text-5-clause-err c = λ before given.
    let w = written_of c.args.input.now in
    let f = c.args.field.now in
    let other : use_in (table_of objective_message) (token_text w f.name) ≡ None = rw (other_name (codes "vars") c.same_text.ensures c.if-same_text.false c.token_text-name.ensures, other_name (codes "coeffs") c.same_text-else-same_text.ensures c.if-same_text-2.false c.token_text-name.ensures, other_name (codes "offset") c.same_text-else-same_text-2.ensures c.if-same_text-3.false c.token_text-name.ensures, other_name (codes "scaling_factor") c.same_text-else-same_text-3.ensures c.if-same_text-4.false c.token_text-name.ensures, other_name (codes "domain") c.same_text-else-same_text-4.ensures c.if-same_text-5.false c.token_text-name.ensures) refl in
    rw c.refused_field.ensures (refused_stops w objective_message f other before)
