use Rattle.std.proofs.Common.{pos, get_or, refl, arith, w64, FitsSigned}
use Rattle.std.proofs.lemmas.Int.{to_z-of_z}
use Rattle.std.proofs.lemmas.List.{get_or_default}
use Rattle.cps_model.specs.declared.parts.Transition.{Transition}
use Rattle.cps_p_sequence.proofs.Numbering.{states_begun, states_more}
use Rattle.cps_p_sequence.proofs.states.states_of.Goals as goal

abbrev no_transition : Transition
no_transition = record { tail = pos 0; head = pos 0; label = pos 0 }

pub loop-step-init : goal.loop-step-init
loop-step-init c = states_begun _ c.args.raw.now c.push.new.self.items (rw c.new-states.ensures.items at c.in_ok-push.ensures.items)

pub loop-step-preserved : goal.loop-step-preserved
loop-step-preserved c =
    let raw = c.args.raw.now in
    let n = c.loop-step.step-index in
    let r = get_or raw n no_transition in
    states_more _ raw n c.loop-step.states.items _ c.push_ends.new.states.items r c.loop-step-test.true (get_or_default raw n no_transition r c.loop-step-test.true) refl c.in_ok-push_ends.ensures c.loop-step.invariant

pub returns : goal.returns
returns c =
    let p = c.loop-step.invariant in
    let fits : FitsSigned w64 c.args.start = c.ranges.start in
    let start = simp to_z-of_z at p.start in
    let past = c.loop-step-test.false in
    record {
      rising = c.make_distinct.ensures.rising;
      start = c.make_distinct.ensures.kept c.args.start start;
      tails = λ k d l. c.make_distinct.ensures.kept _ (p.tails k d (omega arith) l);
      heads = λ k d l. c.make_distinct.ensures.kept _ (p.heads k d (omega arith) l);
    }
