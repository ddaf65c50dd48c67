-- A field of the one name adds its numbers, and any other is refused.
use Rattle.std.proofs.Common.{◌≡◌, ◌++◌, codes, None, refl, append_assoc}
use Rattle.std.proofs.lemmas.Result.{on_ok_weaker}
use Rattle.cps_textproto.specs.Trees.{values_of}
use Rattle.cps_schema.specs.declared.number.Number.TheVariants.{Int32}
use Rattle.cps_schema.specs.Inputs.{written_of}
use Rattle.cps_schema.specs.Written.{token_text}
use Rattle.cps_schema.specs.Tables.{literals_message, number, use_in, table_of}
use Rattle.cps_schema.specs.Readings.{value_numbers}
use Rattle.cps_schema.proofs.Steps.{same_name, table_use, repeated_passes, repeated_stops, refused_stops, other_name}
use Rattle.cps_schema.proofs.literals.add_field.Goals as goal

pub returns-then-same_text-clause-passes : goal.returns-then-same_text-clause-passes
returns-then-same_text-clause-passes c =
    let w = written_of c.args.input.now in
    let name : token_text w c.args.field.now.name ≡ codes "literals" = same_name c.same_text.ensures c.if-same_text.true c.token_text.ensures in
    repeated_passes w literals_message c.args.field.now (number Int32) c.add_refs.result (table_use _ _ _ _ name refl) c.add_refs.ensures.fault

pub returns-then-same_text-clause-err : goal.returns-then-same_text-clause-err
returns-then-same_text-clause-err c =
    let w = written_of c.args.input.now in
    let name : token_text w c.args.field.now.name ≡ codes "literals" = same_name c.same_text.ensures c.if-same_text.true c.token_text.ensures in
    repeated_stops w literals_message c.args.field.now (number Int32) c.add_refs.result (table_use _ _ _ _ name refl) c.add_refs.ensures.err

pub returns-else-same_text-clause-err : goal.returns-else-same_text-clause-err
returns-else-same_text-clause-err c =
    let w = written_of c.args.input.now in
    let other : use_in (table_of literals_message) (token_text w c.args.field.now.name) ≡ None = rw (other_name (codes "literals") c.same_text.ensures c.if-same_text.false c.token_text.ensures) refl in
    rw c.refused_field.ensures (refused_stops w literals_message c.args.field.now other)

pub returns-then-same_text-clause-read : goal.returns-then-same_text-clause-read
returns-then-same_text-clause-read c =
    let w = written_of c.args.input.now in
    let name : token_text w c.args.field.now.name ≡ codes "literals" = same_name c.same_text.ensures c.if-same_text.true c.token_text.ensures in
    on_ok_weaker c.add_refs.result
    (λ (added : c.add_refs.new.list.items ≡ c.args.literals.now.items ++ value_numbers w (values_of c.args.field.now.items)) rest.
    rw (name, added, append_assoc) refl)
    c.add_refs.ensures.added
