-- What the high end leaves stays within it where the low one is kept.
use Rattle.std.proofs.Common.{ap, subst, Ok}
use Rattle.std.proofs.lemmas.Result.{IfOk-at_ok, on_ok_weaker}
use Rattle.cps_trail.proofs.Inferring.{Infers-trans}
use Rattle.cps_trail.specs.Notes.{ByTask}
use Rattle.cps_trail.specs.Adds.{Infers}
use Rattle.cps_propagate.specs.declared.propagator.Answer.{Answer}
use Rattle.cps_propagate.specs.Conflicts.{as_step}
use Rattle.cps_p_linear.specs.declared.ends.Side.{Side}
use Rattle.cps_p_linear.specs.declared.ends.Side.TheVariants.{High}
use Rattle.cps_p_linear.specs.Measuring.{Asks, AnswersBySum}
use Rattle.cps_p_linear.specs.Passing.{IsCutAt}
use Rattle.cps_p_linear.proofs.ConflictAnswers.{not_settled}
use Rattle.cps_p_linear.proofs.Explained.{measured_later, facts_later, cut_later, room_of_cuts}
use Rattle.cps_p_linear.proofs.pass.keep_in_room.Goals as goal

pub keep_end-requires-2-clause-end : goal.keep_end-requires-2-clause-end
keep_end-requires-2-clause-end c =
    let m = c.args.high.now.measured in
    record {
      place = c.requires.end.place;
      measured = measured_later (ByTask c.args.number (Asks m.task)) c.args.store.now c.keep_end.new.store m.task.terms.now m.task.admitted.now m.values.now m.sum c.in_ok-keep_end.ensures.infers c.requires.end.measured;
      goal = c.requires.end.goal;
    }

pub keep_end-requires-2-clause-enforced : goal.keep_end-requires-2-clause-enforced
keep_end-requires-2-clause-enforced c =
    let m = c.args.high.now.measured in
    facts_later (ByTask c.args.number (Asks m.task)) c.args.store.now c.keep_end.new.store m.task.enforcement.now c.in_ok-keep_end.ensures.infers c.requires.enforced

pub returns-in-Conflict-clause-infers : goal.returns-in-Conflict-clause-infers
returns-in-Conflict-clause-infers c = c.in_ok-keep_end.ensures.infers

pub returns-in-Conflict-clause-answers : goal.returns-in-Conflict-clause-answers
returns-in-Conflict-clause-answers c = subst (λ (a : Answer). AnswersBySum c.args.high.now.measured.task c.keep_end.new.store (as_step a c.keep_end.new.facts.reason.items)) c.in-Conflict.is c.in_ok-keep_end.ensures.answers

pub returns-in-Conflict-clause-room : goal.returns-in-Conflict-clause-room
returns-in-Conflict-clause-room c = λ is. absurd (not_settled is)

pub returns-clause-infers : goal.returns-clause-infers
returns-clause-infers c = on_ok_weaker c.keep_end-2.result (λ later. Infers-trans (ByTask c.args.number (Asks c.args.high.now.measured.task)) c.args.store.now c.keep_end.new.store c.keep_end-2.new.store c.in_ok-keep_end.ensures.infers later) c.keep_end-2.ensures.infers

pub returns-clause-answers : goal.returns-clause-answers
returns-clause-answers c = c.keep_end-2.ensures.answers

pub returns-clause-room : goal.returns-clause-room
returns-clause-room c = λ is.
    let e = c.args.high.now in
    let m = e.measured in
    let u = c.keep_end-2.new.store in
    let later = IfOk-at_ok (λ (_ : Answer). Infers (ByTask c.args.number (Asks m.task)) c.keep_end.new.store u) is c.keep_end-2.ensures.infers in
    let within = subst (λ (side : Side). IsCutAt c.keep_end.new.store side m.sum e.goal m.task.terms.now m.values.now e.place) c.requires.side (c.in_ok-keep_end.ensures.cut (ap Ok c.in-NoConflict.is)) in
    room_of_cuts u m.sum e.goal m.task.terms.now m.values.now e.place (c.keep_end-2.ensures.cut is)
    (cut_later (ByTask c.args.number (Asks m.task)) c.keep_end.new.store u High m.sum e.goal m.task.terms.now m.values.now e.place later within)
