-- Each term so far is in its room, from the domains as they were when the sum was measured.
use Rattle.std.proofs.Common.{ap, subst, sym, Ok, arith}
use Rattle.cps_trail.specs.Trail.{Trail}
use Rattle.cps_p_linear.specs.Ends.{AreTightEnds, AreMeasurable}
use Rattle.cps_trail.proofs.Inferring.{Infers-refl, Infers-trans}
use Rattle.cps_trail.specs.Notes.{ByTask}
use Rattle.cps_propagate.specs.declared.propagator.Answer.{Answer}
use Rattle.cps_propagate.specs.Conflicts.{as_step}
use Rattle.cps_p_linear.specs.Measuring.{Asks, AnswersBySum}
use Rattle.cps_p_linear.proofs.Explained.{measured_of, measured_later, facts_later, rooms_none, rooms_more, strong_pass}
use Rattle.cps_p_linear.proofs.ConflictAnswers.{not_settled}
use Rattle.cps_p_linear.proofs.pass.pass_short.Goals as goal

pub measure-requires : goal.measure-requires
measure-requires c = subst (λ (s : Trail). AreMeasurable s.first c.args.task.now.terms.now) (sym c.present.ensures) c.requires.range.measurable

pub returns-in_default-clause-infers : goal.returns-in_default-clause-infers
returns-in_default-clause-infers c = Infers-refl (ByTask c.args.number (Asks c.args.task.now)) c.args.store.now

pub returns-in_default-clause-strong : goal.returns-in_default-clause-strong
returns-in_default-clause-strong c = λ is same. absurd (not_settled is)

pub returns-in-Conflict-clause-strong : goal.returns-in-Conflict-clause-strong
returns-in-Conflict-clause-strong c = λ is same. absurd (not_settled is)

pub conflict_of_sum-requires-clause-measured : goal.conflict_of_sum-requires-clause-measured
conflict_of_sum-requires-clause-measured c = measured_of c.args.store.now c.args.task.now.terms.now c.args.task.now.admitted.now c.measure.new.values.items c.as_slice.result.now c.in_ok-sum.sum c.requires.range (subst (λ (s : Trail). AreTightEnds s c.args.task.now.terms.now c.measure.new.values.items) c.present.ensures c.in_ok-sum.ensures.hulls) c.in_ok-sum.ensures.sum c.as_slice.ensures.value

pub is_in_room-requires-clause-measured : goal.is_in_room-requires-clause-measured
is_in_room-requires-clause-measured c =
    (c.args.store.now, measured_of c.args.store.now c.args.task.now.terms.now c.args.task.now.admitted.now c.measure.new.values.items c.as_slice.result.now c.in_ok-sum.sum c.requires.range (subst (λ (s : Trail). AreTightEnds s c.args.task.now.terms.now c.measure.new.values.items) c.present.ensures c.in_ok-sum.ensures.hulls) c.in_ok-sum.ensures.sum c.as_slice.ensures.value)

pub loop-place-init : goal.loop-place-init
loop-place-init c = record {
  infers = Infers-refl (ByTask c.args.number (Asks c.args.task.now)) c.args.store.now;
  rooms = rooms_none c.args.store.now c.in_ok-sum.sum c.in-Some.goal c.args.task.now.terms.now c.as_slice.result.now;
}

pub keep_in_room-requires-clause-end : goal.keep_in_room-requires-clause-end
keep_in_room-requires-clause-end c = record {
  place = c.loop-place-test.true;
  measured = measured_later (ByTask c.args.number (Asks c.args.task.now)) c.args.store.now c.loop-place.store c.args.task.now.terms.now c.args.task.now.admitted.now c.as_slice.result.now c.in_ok-sum.sum c.loop-place.invariant.infers
      (measured_of c.args.store.now c.args.task.now.terms.now c.args.task.now.admitted.now c.measure.new.values.items c.as_slice.result.now c.in_ok-sum.sum c.requires.range (subst (λ (s : Trail). AreTightEnds s c.args.task.now.terms.now c.measure.new.values.items) c.present.ensures c.in_ok-sum.ensures.hulls) c.in_ok-sum.ensures.sum c.as_slice.ensures.value);
  goal = c.in-Some.ensures;
}

pub keep_in_room-requires-clause-enforced : goal.keep_in_room-requires-clause-enforced
keep_in_room-requires-clause-enforced c = facts_later (ByTask c.args.number (Asks c.args.task.now)) c.args.store.now c.loop-place.store c.args.task.now.enforcement.now c.loop-place.invariant.infers c.requires.enforced

pub returns-in-Conflict-clause-infers : goal.returns-in-Conflict-clause-infers
returns-in-Conflict-clause-infers c = Infers-trans (ByTask c.args.number (Asks c.args.task.now)) c.args.store.now c.loop-place.store c.keep_in_room.new.store c.loop-place.invariant.infers c.in_ok-keep_in_room.ensures.infers

pub returns-in-Conflict-clause-answers : goal.returns-in-Conflict-clause-answers
returns-in-Conflict-clause-answers c = subst (λ (a : Answer). AnswersBySum c.args.task.now c.keep_in_room.new.store (as_step a c.keep_in_room.new.facts.reason.items)) c.in-Conflict.is c.in_ok-keep_in_room.ensures.answers

pub loop-place-preserved-then-is_in_room : goal.loop-place-preserved-then-is_in_room
loop-place-preserved-then-is_in_room c =
    let P = ByTask c.args.number (Asks c.args.task.now) in
    let s = c.loop-place.store in
    record {
      infers = c.loop-place.invariant.infers;
      rooms = rooms_more P s s c.in_ok-sum.sum c.in-Some.goal c.args.task.now.terms.now c.as_slice.result.now c.loop-place.place (Infers-refl P s) c.loop-place.invariant.rooms
          (c.is_in_room.ensures c.if-is_in_room.true s (measured_later P c.args.store.now s c.args.task.now.terms.now c.args.task.now.admitted.now c.as_slice.result.now c.in_ok-sum.sum c.loop-place.invariant.infers
          (measured_of c.args.store.now c.args.task.now.terms.now c.args.task.now.admitted.now c.measure.new.values.items c.as_slice.result.now c.in_ok-sum.sum c.requires.range (subst (λ (s : Trail). AreTightEnds s c.args.task.now.terms.now c.measure.new.values.items) c.present.ensures c.in_ok-sum.ensures.hulls) c.in_ok-sum.ensures.sum c.as_slice.ensures.value)));
    }

pub loop-place-preserved : goal.loop-place-preserved
loop-place-preserved c =
    let P = ByTask c.args.number (Asks c.args.task.now) in
    record {
      infers = Infers-trans P c.args.store.now c.loop-place.store c.keep_in_room.new.store c.loop-place.invariant.infers c.in_ok-keep_in_room.ensures.infers;
      rooms = rooms_more P c.loop-place.store c.keep_in_room.new.store c.in_ok-sum.sum c.in-Some.goal c.args.task.now.terms.now c.as_slice.result.now c.loop-place.place c.in_ok-keep_in_room.ensures.infers c.loop-place.invariant.rooms
          (c.in_ok-keep_in_room.ensures.room (ap Ok c.in-NoConflict.is));
    }

pub returns-clause-strong : goal.returns-clause-strong
returns-clause-strong c e same =
    let past = c.loop-place-test.false in
    strong_pass (ByTask c.args.number (Asks c.args.task.now)) c.args.store.now c.loop-place.store c.args.task.now.terms.now c.measure.new.values.items c.as_slice.result.now c.args.task.now.admitted.now c.in_ok-sum.sum c.in-Some.goal c.loop-place.place
    c.loop-place.invariant.infers same (subst (λ (s : Trail). AreTightEnds s c.args.task.now.terms.now c.measure.new.values.items) c.present.ensures c.in_ok-sum.ensures.hulls) c.in_ok-sum.ensures.sum c.as_slice.ensures.value c.in-Some.ensures (omega arith) c.loop-place.invariant.rooms
