use Rattle.std.proofs.Common.{pos, get_or, rules, ◌∙◌, w64, FitsSigned}
use Rattle.std.proofs.lemmas.Int.{to_z-of_z}
use Rattle.std.proofs.lemmas.List.{get_or_default, take_all}
use Rattle.cps_model.specs.declared.parts.Transition.{Transition}
use Rattle.cps_p_sequence.proofs.Numbering.{named_begun, named_by}
use Rattle.cps_p_sequence.proofs.states.steps_of.Goals as goal

abbrev no_transition : Transition
no_transition = record { tail = pos 0; head = pos 0; label = pos 0 }

pub loop-step-init : goal.loop-step-init
loop-step-init c = named_begun c.args.states.now c.args.raw.now c.new-steps.result.items c.new-steps.ensures.items

pub number_of-requires-clause-listed : goal.number_of-requires-clause-listed
number_of-requires-clause-listed c =
    let n = c.loop-step.step-index in
    let r = get_or c.args.raw.now n no_transition in
    let fits : FitsSigned w64 r.tail = search rules in
    simp to_z-of_z (c.requires.tails n no_transition c.loop-step-test.true)

pub number_of-requires-in-loop-step-clause-listed : goal.number_of-requires-in-loop-step-clause-listed
number_of-requires-in-loop-step-clause-listed c =
    let n = c.loop-step.step-index in
    let r = get_or c.args.raw.now n no_transition in
    let fits : FitsSigned w64 r.head = search rules in
    simp to_z-of_z (c.requires.heads n no_transition c.loop-step-test.true)

pub loop-step-preserved : goal.loop-step-preserved
loop-step-preserved c =
    let raw = c.args.raw.now in
    let ns = c.args.states.now in
    let n = c.loop-step.step-index in
    let r = get_or raw n no_transition in
    let ft : FitsSigned w64 r.tail = search rules in
    let fh : FitsSigned w64 r.head = search rules in
    let fl : FitsSigned w64 r.label = search rules in
    let tail = simp to_z-of_z at c.number_of.ensures in
    let head = simp to_z-of_z at c.number_of-in-loop-step.ensures in
    let items = simp to_z-of_z at c.in_ok-push.ensures.items in
    named_by ns raw n c.loop-step.steps.items c.push.new.self.items c.number_of.result c.number_of-in-loop-step.result r c.loop-step-test.true (get_or_default raw n no_transition r c.loop-step-test.true) items tail head c.loop-step.invariant

pub returns-clause-named : goal.returns-clause-named
returns-clause-named c = c.loop-step.invariant.same ∙ take_all c.loop-step.step-index c.args.raw.now c.loop-step-test.false
