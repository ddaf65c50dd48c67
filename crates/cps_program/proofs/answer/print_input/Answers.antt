-- The input is the text of a model, or has a fault.
use Rattle.cps_program.specs.Inputs.{IsModelText}
use Rattle.cps_program.specs.Answers.{Prints}
use Rattle.cps_program.proofs.Answering.{prints, refuses}
use Rattle.cps_program.proofs.answer.print_input.Goals as goal

pub returns-in-Ok : goal.returns-in-Ok
returns-in-Ok c =
    prints c.args.bytes.now c.in-Ok.model c.print_answer.result c.requires c.in-Ok.ensures.ok c.print_answer.ensures.canonical
    (c.print_answer.ensures.back c.args.bytes.now c.in-Ok.ensures.ok.this)

pub returns-in-Err : goal.returns-in-Err
returns-in-Err c =
    refuses IsModelText Prints c.args.bytes.now c.in-Err.input_error c.input_error_answer.result c.in-Err.ensures.err c.input_error_answer.ensures
