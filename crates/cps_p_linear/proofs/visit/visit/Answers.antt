-- A pass that adds no entry leaves the store as it was, in which it is strong.
use Rattle.cps_trail.proofs.Inferring.{Infers-trans}
use Rattle.std.proofs.Common.{◌≡◌, Ok, List, inr, subst, ap, arith, length, length-append}
use Rattle.cps_trail.specs.Trail.{Trail, Entry}
use Rattle.cps_trail.specs.Notes.{ByTask}
use Rattle.cps_propagate.specs.declared.propagator.Answer.{Answer}
use Rattle.cps_propagate.specs.Conflicts.{as_step}
use Rattle.cps_p_linear.specs.Measuring.{Asks, AnswersBySum}
use Rattle.cps_p_linear.proofs.Explained.{facts_later}
use Rattle.cps_propagate.proofs.Visiting.{Infers-nothing}
use Rattle.cps_p_linear.proofs.Gauges.{recalls_from, recalls_grown}
use Rattle.cps_p_linear.proofs.visit.visit.Goals as goal

pub pass-requires-clause-enforced : goal.pass-requires-clause-enforced
pass-requires-clause-enforced c = facts_later (ByTask c.args.number (Asks c.args.task.now)) c.args.store.now c.loop-store.store c.args.task.now.enforcement.now c.loop-store.invariant.infers (record { true_now = c.in-On.ensures; negatable = c.requires.negatable.negatable; subjects = c.requires.negatable.subjects })

pub returns-in-Conflict-clause-infers : goal.returns-in-Conflict-clause-infers
returns-in-Conflict-clause-infers c = Infers-trans (ByTask c.args.number (Asks c.args.task.now)) c.args.store.now c.loop-store.store c.pass.new.store c.loop-store.invariant.infers c.in_ok-pass.ensures.infers

pub returns-in-Conflict-clause-answers : goal.returns-in-Conflict-clause-answers
returns-in-Conflict-clause-answers c = subst (λ (a : Answer). AnswersBySum c.args.task.now c.pass.new.store (as_step a c.pass.new.scratch.facts.reason.items)) c.in-Conflict.is c.in_ok-pass.ensures.answers

pub loop-store-preserved : goal.loop-store-preserved
loop-store-preserved c = record {
  infers = Infers-trans (ByTask c.args.number (Asks c.args.task.now)) c.args.store.now c.loop-store.store c.pass.new.store c.loop-store.invariant.infers c.in_ok-pass.ensures.infers;
  gauge = c.pass.ensures.gauge;
  recalls = recalls_from _ c.pass.new.store _ (omega (arith, c.entries-before.ensures.views.same_length, ap (λ (es : List Entry). length es) c.in_ok-pass.ensures.infers.entries, length-append c.loop-store.store.entries c.in_ok-pass.ensures.infers.added)) c.in_ok-pass.ensures.recalls;
}

pub returns-in-Idle-clause-recalls : goal.returns-in-Idle-clause-recalls
returns-in-Idle-clause-recalls c = c.go_back.ensures.recalls c.args.task.now.terms.now c.args.store.now (length c.args.store.now.entries) c.requires.recalls

pub returns-in-Open-clause-recalls : goal.returns-in-Open-clause-recalls
returns-in-Open-clause-recalls c = (recalls_grown _ _ c.args.store.now c.disable.new.store c.in_ok-disable-in-Open.ensures.infers c.in_ok-sum-in-Open.ensures.recalls).recalls

pub returns-then-entries-before-clause-infers : goal.returns-then-entries-before-clause-infers
returns-then-entries-before-clause-infers c = Infers-trans (ByTask c.args.number (Asks c.args.task.now)) c.args.store.now c.loop-store.store c.pass.new.store c.loop-store.invariant.infers c.in_ok-pass.ensures.infers

pub returns-then-entries-before-clause-settled : goal.returns-then-entries-before-clause-settled
returns-then-entries-before-clause-settled c = λ _.
    let p = c.in_ok-pass.ensures in
    let same : c.pass.new.store ≡ c.loop-store.store = Infers-nothing _ _ _ p.infers (omega (arith, c.if-entries-before.true, c.entries.ensures.views.same_length, c.entries-before.ensures.views.same_length)) in
    inr (p.strong (ap Ok c.in-NoConflict.is) (ap (λ (s : Trail). s.entries) same))
