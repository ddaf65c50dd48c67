-- The first of the field's name.
use Rattle.std.proofs.Common.{sym, ◌∙◌}
use Rattle.cps_schema.specs.Inputs.{written_of}
use Rattle.cps_schema.specs.Tables.{message}
use Rattle.cps_schema.proofs.Steps.{single_stops}
use Rattle.cps_schema.proofs.message.set_once.Goals as goal

pub returns-in-Err-clause-err : goal.returns-in-Err-clause-err
returns-in-Err-clause-err g c = λ m before takes first.
    single_stops (written_of c.args.input.now) m before c.args.field.now (message g.M.Message.fields) takes
    (first ∙ sym c.is_some.ensures ∙ c.if-is_some.false) c.in-Err.error (c.in-Err.ensures.err g.M.Message.fields)
