-- Each listed term so far is in its room, from the domains as they were when the sum was measured.
use Rattle.std.proofs.Common.{ap, subst, Ok, arith}
use Rattle.cps_trail.proofs.Inferring.{Infers-refl, Infers-trans}
use Rattle.cps_trail.specs.Notes.{ByTask}
use Rattle.cps_propagate.specs.declared.propagator.Answer.{Answer}
use Rattle.cps_propagate.specs.Conflicts.{as_step}
use Rattle.cps_p_linear.specs.Measuring.{Asks, AnswersBySum}
use Rattle.cps_p_linear.proofs.Explained.{measured_later, facts_later}
use Rattle.cps_p_linear.proofs.WideTerms.{listed_more}
use Rattle.cps_p_linear.proofs.pass.keep_wide.Goals as goal

pub loop-listed-init : goal.loop-listed-init
loop-listed-init c = record {
  infers = Infers-refl (ByTask c.args.number (Asks c.args.wide.now.measured.task)) c.args.store.now;
  rooms = λ j d l. absurd (omega (arith, l));
}

pub loop-listed-preserved-then-is_in_room : goal.loop-listed-preserved-then-is_in_room
loop-listed-preserved-then-is_in_room c =
    let m = c.args.wide.now.measured in
    let P = ByTask c.args.number (Asks m.task) in
    let s = c.loop-listed.store in
    record {
      infers = c.loop-listed.invariant.infers;
      rooms = listed_more P s s m.sum c.args.wide.now.goal m.task.terms.now m.values.now c.args.wide.now.places.now c.loop-listed.listed (Infers-refl P s) c.loop-listed-test.true c.loop-listed.invariant.rooms
          (c.is_in_room.ensures c.if-is_in_room.true s (measured_later P c.args.store.now s m.task.terms.now m.task.admitted.now m.values.now m.sum c.loop-listed.invariant.infers c.requires.measured));
    }

pub keep_in_room-requires-clause-end : goal.keep_in_room-requires-clause-end
keep_in_room-requires-clause-end c =
    let m = c.args.wide.now.measured in
    record {
      place = c.requires.places c.loop-listed.listed 0 c.loop-listed-test.true;
      measured = measured_later (ByTask c.args.number (Asks m.task)) c.args.store.now c.loop-listed.store m.task.terms.now m.task.admitted.now m.values.now m.sum c.loop-listed.invariant.infers c.requires.measured;
      goal = c.requires.goal;
    }

pub keep_in_room-requires-clause-enforced : goal.keep_in_room-requires-clause-enforced
keep_in_room-requires-clause-enforced c = facts_later (ByTask c.args.number (Asks c.args.wide.now.measured.task)) c.args.store.now c.loop-listed.store c.args.wide.now.measured.task.enforcement.now c.loop-listed.invariant.infers c.requires.enforced

pub returns-in-Conflict-clause-infers : goal.returns-in-Conflict-clause-infers
returns-in-Conflict-clause-infers c = Infers-trans (ByTask c.args.number (Asks c.args.wide.now.measured.task)) c.args.store.now c.loop-listed.store c.keep_in_room.new.store c.loop-listed.invariant.infers c.in_ok-keep_in_room.ensures.infers

pub returns-in-Conflict-clause-answers : goal.returns-in-Conflict-clause-answers
returns-in-Conflict-clause-answers c = subst (λ (a : Answer). AnswersBySum c.args.wide.now.measured.task c.keep_in_room.new.store (as_step a c.keep_in_room.new.facts.reason.items)) c.in-Conflict.is c.in_ok-keep_in_room.ensures.answers

pub loop-listed-preserved : goal.loop-listed-preserved
loop-listed-preserved c =
    let m = c.args.wide.now.measured in
    let P = ByTask c.args.number (Asks m.task) in
    record {
      infers = Infers-trans P c.args.store.now c.loop-listed.store c.keep_in_room.new.store c.loop-listed.invariant.infers c.in_ok-keep_in_room.ensures.infers;
      rooms = listed_more P c.loop-listed.store c.keep_in_room.new.store m.sum c.args.wide.now.goal m.task.terms.now m.values.now c.args.wide.now.places.now c.loop-listed.listed c.in_ok-keep_in_room.ensures.infers c.loop-listed-test.true c.loop-listed.invariant.rooms
          (c.in_ok-keep_in_room.ensures.room (ap Ok c.in-NoConflict.is));
    }

pub returns-clause-infers : goal.returns-clause-infers
returns-clause-infers c = c.loop-listed.invariant.infers

pub returns-clause-rooms : goal.returns-clause-rooms
returns-clause-rooms c _ k d l = c.loop-listed.invariant.rooms k d (omega (arith, l, c.loop-listed-test.false))
