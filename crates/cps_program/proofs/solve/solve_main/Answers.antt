-- The answer was given out.
use Rattle.cps_program.proofs.Logs.{gives_log}
use Rattle.cps_program.proofs.Verdicts.{answer_exit, leaves_verified, gives_refusal, decided}
use Rattle.cps_program.proofs.solve.solve_main.Goals as goal

pub returns-in-Ok-clause-answer : goal.returns-in-Ok-clause-answer
returns-in-Ok-clause-answer g c =
    let given = c.in-Ok.ensures.right in
    rw c.write_answer.ensures.text (record {
      bytes = given.0;
      answer = c.in-Ok.answer;
      input = given.1;
      right = given.2;
      outcome = c.write_answer.ensures.outcome;
      whole = c.write_answer.ensures.whole;
      part = c.write_answer.ensures.part;
    })

pub write_answer-requires : goal.write_answer-requires
write_answer-requires g c =
    let given = c.in-Ok.ensures.right in
    answer_exit _ given.0 c.in-Ok.answer given.2

pub returns-in-Ok-clause-logged : goal.returns-in-Ok-clause-logged
returns-in-Ok-clause-logged g c = λ options line.
    gives_log _ _ _ _ c.write_answer.result.exit c.in-Ok.answer c.in-Ok.ensures.right c.write_answer.ensures.whole options line

pub returns-in-Ok-clause-verified : goal.returns-in-Ok-clause-verified
returns-in-Ok-clause-verified g c =
    leaves_verified _ _ _ _ c.write_answer.result.exit c.in-Ok.answer c.in-Ok.ensures.right c.write_answer.ensures.whole

pub returns-in-Ok-clause-refused : goal.returns-in-Ok-clause-refused
returns-in-Ok-clause-refused g c =
    gives_refusal _ _ _ _ c.write_answer.result.exit c.in-Ok.answer c.in-Ok.ensures.right c.write_answer.ensures.whole

pub returns-in-Ok-clause-decided : goal.returns-in-Ok-clause-decided
returns-in-Ok-clause-decided g c = λ line valid text.
    decided _ _ _ _ c.write_answer.result.exit c.in-Ok.answer c.in-Ok.ensures.right c.write_answer.ensures.whole line valid
