-- The input is a valid model, or has a fault.
use Rattle.cps_program.specs.Inputs.{IsInput}
use Rattle.cps_program.specs.Answers.{Solves}
use Rattle.cps_program.proofs.Answering.{takes, refuses}
use Rattle.cps_program.proofs.solving.solve_input.Goals as goal

pub returns-in-Ok : goal.returns-in-Ok
returns-in-Ok g c =
    takes IsInput (Solves c.args.options.now) c.args.bytes.now c.in-Ok.model c.solve_answer.result c.in-Ok.ensures.ok c.solve_answer.ensures

pub returns-in-Err : goal.returns-in-Err
returns-in-Err g c =
    refuses IsInput (Solves c.args.options.now) c.args.bytes.now c.in-Err.input_error c.input_error_answer.result c.in-Err.ensures.err c.input_error_answer.ensures
