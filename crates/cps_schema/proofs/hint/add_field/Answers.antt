-- A field of a name adds what that name takes, and any other is refused.
use Rattle.std.proofs.Common.{◌≡◌, ◌++◌, codes, None, refl, append_assoc}
use Rattle.std.proofs.lemmas.Result.{on_ok_weaker}
use Rattle.cps_textproto.specs.Trees.{values_of}
use Rattle.cps_schema.specs.declared.number.Number.TheVariants.{Int32, Int64}
use Rattle.cps_schema.specs.Inputs.{written_of}
use Rattle.cps_schema.specs.Written.{token_text}
use Rattle.cps_schema.specs.Tables.{hint_message, number, use_in, table_of}
use Rattle.cps_schema.specs.Readings.{value_numbers}
use Rattle.cps_schema.proofs.Steps.{same_name, table_use, repeated_passes, repeated_stops, refused_stops, other_name}
use Rattle.cps_schema.proofs.hint.add_field.Goals as goal

pub returns-then-same_text-clause-passes : goal.returns-then-same_text-clause-passes
returns-then-same_text-clause-passes c =
    let w = written_of c.args.input.now in
    let f = c.args.field.now in
    let name : token_text w f.name ≡ codes "vars" = same_name c.same_text.ensures c.if-same_text.true c.token_text-name.ensures in
    repeated_passes w hint_message f (number Int32) c.add_refs.result (table_use _ _ _ _ name refl) c.add_refs.ensures.fault

pub returns-then-same_text-clause-read : goal.returns-then-same_text-clause-read
returns-then-same_text-clause-read c =
    let w = written_of c.args.input.now in
    let f = c.args.field.now in
    let name : token_text w f.name ≡ codes "vars" = same_name c.same_text.ensures c.if-same_text.true c.token_text-name.ensures in
    on_ok_weaker c.add_refs.result
    (λ (added : c.add_refs.new.list.items ≡ c.args.parts.now.vars.items ++ value_numbers w (values_of f.items)) rest.
    rw (name, added, append_assoc) refl)
    c.add_refs.ensures.added

pub returns-then-same_text-clause-err : goal.returns-then-same_text-clause-err
returns-then-same_text-clause-err c =
    let w = written_of c.args.input.now in
    let f = c.args.field.now in
    let name : token_text w f.name ≡ codes "vars" = same_name c.same_text.ensures c.if-same_text.true c.token_text-name.ensures in
    repeated_stops w hint_message f (number Int32) c.add_refs.result (table_use _ _ _ _ name refl) c.add_refs.ensures.err

pub returns-then-same_text-2-clause-passes : goal.returns-then-same_text-2-clause-passes
returns-then-same_text-2-clause-passes c =
    let w = written_of c.args.input.now in
    let f = c.args.field.now in
    let name : token_text w f.name ≡ codes "values" = same_name c.same_text-else-same_text.ensures c.if-same_text-2.true c.token_text-name.ensures in
    repeated_passes w hint_message f (number Int64) c.add_ints.result (table_use _ _ _ _ name refl) c.add_ints.ensures.fault

pub returns-then-same_text-2-clause-read : goal.returns-then-same_text-2-clause-read
returns-then-same_text-2-clause-read c =
    let w = written_of c.args.input.now in
    let f = c.args.field.now in
    let name : token_text w f.name ≡ codes "values" = same_name c.same_text-else-same_text.ensures c.if-same_text-2.true c.token_text-name.ensures in
    on_ok_weaker c.add_ints.result
    (λ (added : c.add_ints.new.list.items ≡ c.args.parts.now.values.items ++ value_numbers w (values_of f.items)) rest.
    rw (name, added, append_assoc) refl)
    c.add_ints.ensures.added

pub returns-then-same_text-2-clause-err : goal.returns-then-same_text-2-clause-err
returns-then-same_text-2-clause-err c =
    let w = written_of c.args.input.now in
    let f = c.args.field.now in
    let name : token_text w f.name ≡ codes "values" = same_name c.same_text-else-same_text.ensures c.if-same_text-2.true c.token_text-name.ensures in
    repeated_stops w hint_message f (number Int64) c.add_ints.result (table_use _ _ _ _ name refl) c.add_ints.ensures.err

pub returns-else-same_text-2-clause-err : goal.returns-else-same_text-2-clause-err
returns-else-same_text-2-clause-err c =
    let w = written_of c.args.input.now in
    let f = c.args.field.now in
    let other : use_in (table_of hint_message) (token_text w f.name) ≡ None = rw (other_name (codes "vars") c.same_text.ensures c.if-same_text.false c.token_text-name.ensures, other_name (codes "values") c.same_text-else-same_text.ensures c.if-same_text-2.false c.token_text-name.ensures) refl in
    rw c.refused_field.ensures (refused_stops w hint_message f other)
