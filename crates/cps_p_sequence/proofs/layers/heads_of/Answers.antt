-- A state is marked to which an open step leads from a marked one.
use Rattle.std.proofs.Common.{pos, get_or, refl, sym, ◌∙◌, rules, arith, w64, FitsSigned, true≢false}
use Rattle.std.proofs.lemmas.Int.{to_z-of_z}
use Rattle.std.proofs.lemmas.List.{get_or_default}
use Rattle.cps_p_sequence.specs.declared.states.Step.{Step}
use Rattle.cps_p_sequence.proofs.Layering.{heads_begun, heads_passed, heads_marked, heads_whole}
use Rattle.cps_p_sequence.proofs.layers.heads_of.Goals as goal

abbrev no_step : Step
no_step = record { tail = 0; head = 0; label = pos 0 }

pub bounds-tails-step : goal.bounds-tails-step
bounds-tails-step c = (c.requires.steps c.loop-step.step-index no_step c.loop-step-test.true).tail

pub index_mut-requires : goal.index_mut-requires
index_mut-requires c =
    let l = (c.requires.steps c.loop-step.step-index no_step c.loop-step-test.true).head in
    let size = c.loop-step.invariant.size in
    omega arith

pub loop-step-init : goal.loop-step-init
loop-step-init c = heads_begun c.args.store.now c.args.subject c.args.steps.now c.args.tails.now c.blank.new.row.items c.in_ok-blank.ensures.size c.in_ok-blank.ensures.blank

pub loop-step-preserved-then-not-tails-step : goal.loop-step-preserved-then-not-tails-step
loop-step-preserved-then-not-tails-step c =
    let steps = c.args.steps.now in
    let n = c.loop-step.step-index in
    let t = get_or steps n no_step in
    let l = c.loop-step-test.true in
    heads_passed c.args.store.now c.args.subject steps c.args.tails.now n c.loop-step.heads.items t l (get_or_default steps n no_step t l)
    (λ o h. absurd (true≢false (sym h ∙ c.if-not-tails-step.true))) c.loop-step.invariant

pub loop-step-preserved-then-not-is_open : goal.loop-step-preserved-then-not-is_open
loop-step-preserved-then-not-is_open c =
    let steps = c.args.steps.now in
    let n = c.loop-step.step-index in
    let t = get_or steps n no_step in
    let l = c.loop-step-test.true in
    let f : FitsSigned w64 t.label = search rules in
    let decided = simp to_z-of_z at c.is_open.ensures in
    heads_passed c.args.store.now c.args.subject steps c.args.tails.now n c.loop-step.heads.items t l (get_or_default steps n no_step t l)
    (λ o h. absurd (true≢false (sym (decided.1 o) ∙ c.if-not-is_open.true))) c.loop-step.invariant

pub loop-step-preserved : goal.loop-step-preserved
loop-step-preserved c =
    let steps = c.args.steps.now in
    let n = c.loop-step.step-index in
    let t = get_or steps n no_step in
    let l = c.loop-step-test.true in
    let f : FitsSigned w64 t.label = search rules in
    let decided = simp to_z-of_z at c.is_open.ensures in
    let inside = (c.requires.steps n no_step l).head in
    let size = c.loop-step.invariant.size in
    heads_marked c.args.store.now c.args.subject steps c.args.tails.now n c.loop-step.heads.items _ t l (get_or_default steps n no_step t l) (omega arith) refl
    (decided.0 c.if-not-is_open.false) c.if-not-tails-step.false c.loop-step.invariant

pub returns : goal.returns
returns c = heads_whole c.args.store.now c.args.subject c.args.steps.now c.loop-step.step-index c.args.tails.now c.loop-step.heads.items c.loop-step-test.false c.loop-step.invariant
