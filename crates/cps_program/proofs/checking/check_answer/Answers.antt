-- The line that the verdict names is the one that is refused.
use Rattle.cps_program.proofs.Verdicts.{refuses_at}
use Rattle.cps_program.proofs.checking.check_answer.Goals as goal

pub returns-in_ok-refused_text-in-Refused : goal.returns-in_ok-refused_text-in-Refused
returns-in_ok-refused_text-in-Refused c =
    let at = c.in_ok-check.ensures.refused c.in-Refused.line c.in-Refused.is in
    refuses_at c.args.response.now c.args.first_line c.in-Refused.line c.args.model.now _ at (rw c.in_ok-refused_text-in-Refused.ensures at c.text_answer-in-Refused.ensures)
