-- A step that is no way on is ruled out by the facts; each other one marks its head.
use Rattle.std.proofs.Common.{◌∷◌, [], pos, Ok, get_or, refl, sym, ◌∙◌, ap, arith, true≢false}
use Rattle.std.proofs.lemmas.List.{get_or_default}
use Rattle.cps_p_sequence.specs.declared.states.Step.{Step}
use Rattle.cps_p_sequence.proofs.Growing.{grows_same}
use Rattle.cps_p_sequence.proofs.Cutting.{comes_begun, comes_passed, comes_marked, comes_whole, limited_still}
use Rattle.cps_p_sequence.proofs.cuts.lead_on.Goals as goal

abbrev no_step : Step
no_step = record { tail = 0; head = 0; label = pos 0 }

pub bounds-layer-step : goal.bounds-layer-step
bounds-layer-step c = (c.requires.tails c.loop-step.step-index no_step c.loop-step-test.true).tail

pub is_no_way-requires-clause-head : goal.is_no_way-requires-clause-head
is_no_way-requires-clause-head c = (c.requires.guide c.loop-step.step-index no_step c.loop-step-test.true).head

pub index_mut-requires : goal.index_mut-requires
index_mut-requires c =
    let l = (c.requires.tails c.loop-step.step-index no_step c.loop-step-test.true).head in
    let size = c.loop-step.invariant.comes.size in
    omega arith

pub loop-step-init : goal.loop-step-init
loop-step-init c =
    let y = c.args.layer.now in
    record {
      comes = comes_begun c.args.past.now y.goal y.subject y.steps.now y.tails.now c.args.facts.now.items c.blank.new.row.items c.push_limits.new.facts.items c.in_ok-blank.ensures.size c.in_ok-limits.ensures.grows;
      limited = c.in_ok-limits.ensures.limited;
    }

pub loop-step-preserved-then-not-layer-step : goal.loop-step-preserved-then-not-layer-step
loop-step-preserved-then-not-layer-step c =
    let s = c.args.past.now in
    let y = c.args.layer.now in
    let n = c.loop-step.step-index in
    let t = get_or y.steps.now n no_step in
    let l = c.loop-step-test.true in
    let us = c.loop-step.facts.items in
    record {
      comes = comes_passed s y.goal y.subject y.steps.now y.tails.now c.args.facts.now.items n c.loop-step.heads.items us us t l (get_or_default y.steps.now n no_step t l) (grows_same s (y.subject ∷ []) us us refl)
          (λ h. absurd (true≢false (sym h ∙ c.if-not-layer-step.true))) c.loop-step.invariant.comes;
      limited = c.loop-step.invariant.limited;
    }

pub loop-step-preserved-then-branch : goal.loop-step-preserved-then-branch
loop-step-preserved-then-branch c =
    let s = c.args.past.now in
    let y = c.args.layer.now in
    let n = c.loop-step.step-index in
    let t = get_or y.steps.now n no_step in
    let l = c.loop-step-test.true in
    let old = c.loop-step.facts.items in
    let new = c.is_no_way.new.facts.items in
    let p = c.loop-step.invariant in
    let out = c.in_ok-is_no_way.ensures.out (ap Ok c.if-branch.true) p.limited in
    record {
      comes = comes_passed s y.goal y.subject y.steps.now y.tails.now c.args.facts.now.items n c.loop-step.heads.items old new t l (get_or_default y.steps.now n no_step t l) c.in_ok-is_no_way.ensures.grows (λ h. out) p.comes;
      limited = limited_still s old new y.subject c.in_ok-limits.limits c.in_ok-is_no_way.ensures.grows p.limited;
    }

pub loop-step-preserved : goal.loop-step-preserved
loop-step-preserved c =
    let s = c.args.past.now in
    let y = c.args.layer.now in
    let n = c.loop-step.step-index in
    let t = get_or y.steps.now n no_step in
    let l = c.loop-step-test.true in
    let old = c.loop-step.facts.items in
    let new = c.is_no_way.new.facts.items in
    let p = c.loop-step.invariant in
    let inside = (c.requires.tails n no_step l).head in
    let size = p.comes.size in
    record {
      comes = comes_marked s y.goal y.subject y.steps.now y.tails.now c.args.facts.now.items n c.loop-step.heads.items _ old new t l (get_or_default y.steps.now n no_step t l) c.in_ok-is_no_way.ensures.grows (omega arith) refl p.comes;
      limited = limited_still s old new y.subject c.in_ok-limits.limits c.in_ok-is_no_way.ensures.grows p.limited;
    }

pub returns : goal.returns
returns c =
    let y = c.args.layer.now in
    comes_whole c.args.past.now y.goal y.subject y.steps.now y.tails.now c.args.facts.now.items c.loop-step.step-index c.loop-step.heads.items c.loop-step.facts.items c.loop-step-test.false c.loop-step.invariant.comes
