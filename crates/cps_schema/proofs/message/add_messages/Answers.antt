-- A field that gives no messages.
use Rattle.cps_schema.specs.Inputs.{written_of}
use Rattle.cps_schema.proofs.message.add_messages.Goals as goal

pub returns-in-Err-clause-err : goal.returns-in-Err-clause-err
returns-in-Err-clause-err g c = c.in-Err.ensures.err (written_of c.args.input.now) g.M.Message.fields
