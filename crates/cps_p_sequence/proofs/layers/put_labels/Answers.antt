-- The labels so far are those of open steps between marked states.
use Rattle.std.proofs.Common.{pos, get_or, sym, ◌∙◌, rules, arith, w64, FitsSigned, true≢false}
use Rattle.std.proofs.lemmas.Int.{to_z-of_z}
use Rattle.std.proofs.lemmas.List.{get_or_default}
use Rattle.cps_p_sequence.specs.declared.states.Step.{Step}
use Rattle.cps_p_sequence.proofs.Layering.{labels_begun, labels_passed, labels_listed, labels_more, labels_sorted}
use Rattle.cps_p_sequence.proofs.layers.put_labels.Goals as goal

abbrev no_step : Step
no_step = record { tail = 0; head = 0; label = pos 0 }

pub bounds-tails-step : goal.bounds-tails-step
bounds-tails-step c = (c.requires.tails c.loop-step.step-index no_step c.loop-step-test.true).tail

pub bounds-heads-step : goal.bounds-heads-step
bounds-heads-step c = (c.requires.heads c.loop-step.step-index no_step c.loop-step-test.true).head

pub loop-step-init : goal.loop-step-init
loop-step-init c = labels_begun c.args.store.now c.args.position.now.subject c.args.position.now.steps.now c.args.tails.now c.args.heads.now c.clear.new.self.items c.clear.ensures.items

pub loop-step-preserved-then-not-tails-step : goal.loop-step-preserved-then-not-tails-step
loop-step-preserved-then-not-tails-step c =
    let y = c.args.position.now in
    let n = c.loop-step.step-index in
    let t = get_or y.steps.now n no_step in
    let l = c.loop-step-test.true in
    labels_passed c.args.store.now y.subject y.steps.now c.args.tails.now c.args.heads.now n c.loop-step.labels.items t l (get_or_default y.steps.now n no_step t l)
    (λ o a b. absurd (true≢false (sym a ∙ c.if-not-tails-step.true))) c.loop-step.invariant

pub loop-step-preserved-then-not-heads-step : goal.loop-step-preserved-then-not-heads-step
loop-step-preserved-then-not-heads-step c =
    let y = c.args.position.now in
    let n = c.loop-step.step-index in
    let t = get_or y.steps.now n no_step in
    let l = c.loop-step-test.true in
    labels_passed c.args.store.now y.subject y.steps.now c.args.tails.now c.args.heads.now n c.loop-step.labels.items t l (get_or_default y.steps.now n no_step t l)
    (λ o a b. absurd (true≢false (sym b ∙ c.if-not-heads-step.true))) c.loop-step.invariant

pub loop-step-preserved-then-not-is_open : goal.loop-step-preserved-then-not-is_open
loop-step-preserved-then-not-is_open c =
    let y = c.args.position.now in
    let n = c.loop-step.step-index in
    let t = get_or y.steps.now n no_step in
    let l = c.loop-step-test.true in
    let f : FitsSigned w64 t.label = search rules in
    let decided = simp to_z-of_z at c.is_open.ensures in
    labels_passed c.args.store.now y.subject y.steps.now c.args.tails.now c.args.heads.now n c.loop-step.labels.items t l (get_or_default y.steps.now n no_step t l)
    (λ o a b. absurd (true≢false (sym (decided.1 o) ∙ c.if-not-is_open.true))) c.loop-step.invariant

pub loop-step-preserved-then-is_last_label : goal.loop-step-preserved-then-is_last_label
loop-step-preserved-then-is_last_label c =
    let y = c.args.position.now in
    let n = c.loop-step.step-index in
    let t = get_or y.steps.now n no_step in
    let l = c.loop-step-test.true in
    let f : FitsSigned w64 t.label = search rules in
    let listed = simp to_z-of_z at (rw c.deref.ensures.value at c.is_last_label.ensures) in
    labels_listed c.args.store.now y.subject y.steps.now c.args.tails.now c.args.heads.now n c.loop-step.labels.items t l (get_or_default y.steps.now n no_step t l) (listed c.if-is_last_label.true) c.loop-step.invariant

pub loop-step-preserved : goal.loop-step-preserved
loop-step-preserved c =
    let y = c.args.position.now in
    let n = c.loop-step.step-index in
    let t = get_or y.steps.now n no_step in
    let l = c.loop-step-test.true in
    let f : FitsSigned w64 t.label = search rules in
    let decided = simp to_z-of_z at c.is_open.ensures in
    let items = simp to_z-of_z at c.in_ok-push.ensures.items in
    labels_more c.args.store.now y.subject y.steps.now c.args.tails.now c.args.heads.now n c.loop-step.labels.items c.push.new.self.items t l (get_or_default y.steps.now n no_step t l) items
    (decided.0 c.if-not-is_open.false) c.if-not-tails-step.false c.if-not-heads-step.false c.loop-step.invariant

pub returns-clause-alive : goal.returns-clause-alive
returns-clause-alive c =
    let y = c.args.position.now in
    let n = c.loop-step.step-index in
    let past = c.loop-step-test.false in
    let p = labels_sorted c.args.store.now y.subject y.steps.now c.args.tails.now c.args.heads.now n c.loop-step.labels.items c.make_distinct.new.numbers.items c.make_distinct.ensures.kept c.make_distinct.ensures.added_none c.loop-step.invariant in
    record { all = λ k d m l. p.all k d (omega arith) l; led = p.led }
