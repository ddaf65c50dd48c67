use Rattle.std.proofs.Common.{◌≡◌, true, false, sym}
use Rattle.cps_schema.specs.declared.number.Number.TheVariants.{Int32}
use Rattle.cps_schema.specs.Inputs.{written_of}
use Rattle.cps_schema.specs.Written.{token_text}
use Rattle.cps_schema.specs.Tables.{number, is_given}
use Rattle.cps_schema.proofs.Steps.{open_passes, open_stops, closable_stops}
use Rattle.cps_schema.proofs.model.add_assumptions.Goals as goal

pub returns-then-is_given-clause-err : goal.returns-then-is_given-clause-err
returns-then-is_given-clause-err c =
    let w = written_of c.args.input.now in
    let closed : is_given w.closed (token_text w c.args.field.now.name) ≡ true = rw (← c.token_text.ensures) (sym c.if-is_given.ensures) in
    closable_stops w c.args.field.now (number Int32) closed

pub returns-clause-passes : goal.returns-clause-passes
returns-clause-passes c =
    let w = written_of c.args.input.now in
    let unclosed : is_given w.closed (token_text w c.args.field.now.name) ≡ false = rw (← c.token_text.ensures) (sym c.if-is_given.ensures) in
    open_passes w c.args.field.now (number Int32) c.add_refs.result unclosed c.add_refs.ensures.fault

pub returns-clause-err : goal.returns-clause-err
returns-clause-err c =
    let w = written_of c.args.input.now in
    let unclosed : is_given w.closed (token_text w c.args.field.now.name) ≡ false = rw (← c.token_text.ensures) (sym c.if-is_given.ensures) in
    open_stops w c.args.field.now (number Int32) c.add_refs.result unclosed c.add_refs.ensures.err
