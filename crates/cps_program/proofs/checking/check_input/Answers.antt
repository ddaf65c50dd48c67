-- The input is a valid model and a response, or has a fault.
use Rattle.cps_program.specs.Inputs.{IsInput}
use Rattle.cps_program.specs.Answers.{Checks}
use Rattle.cps_program.proofs.Answering.{takes, refuses}
use Rattle.cps_program.proofs.Verdicts.{checks}
use Rattle.cps_program.proofs.checking.check_input.Goals as goal

pub returns-in-Ok : goal.returns-in-Ok
returns-in-Ok c =
    let parts = c.split-first_line.result in
    checks c.args.bytes.now parts.model.now parts.response.now parts.first_line c.check_answer.result c.requires c.split-first_line.ensures.is
    (takes IsInput (Checks parts.response.now parts.first_line) parts.model.now c.in-Ok.model c.check_answer.result c.in-Ok.ensures.ok c.check_answer.ensures)

pub returns-in-Err : goal.returns-in-Err
returns-in-Err c =
    let parts = c.split-first_line.result in
    checks c.args.bytes.now parts.model.now parts.response.now parts.first_line c.input_error_answer.result c.requires c.split-first_line.ensures.is
    (refuses IsInput (Checks parts.response.now parts.first_line) parts.model.now c.in-Err.input_error c.input_error_answer.result c.in-Err.ensures.err c.input_error_answer.ensures)
