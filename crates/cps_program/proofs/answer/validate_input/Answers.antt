-- The input is a valid model, or has a fault.
use Rattle.cps_program.specs.Inputs.{IsInput}
use Rattle.cps_program.specs.Answers.{Validates}
use Rattle.cps_program.proofs.Answering.{takes, refuses}
use Rattle.cps_program.proofs.answer.validate_input.Goals as goal

pub returns-in-Ok : goal.returns-in-Ok
returns-in-Ok c =
    takes IsInput Validates c.args.bytes.now _ c.valid_answer.result c.in-Ok.ensures.ok c.valid_answer.ensures

pub returns-in-Err : goal.returns-in-Err
returns-in-Err c =
    refuses IsInput Validates c.args.bytes.now c.in-Err.input_error c.input_error_answer.result c.in-Err.ensures.err c.input_error_answer.ensures
