-- One label more, and all of them.
use Rattle.std.specs.Prelude.{◌↔◌}
use Rattle.std.proofs.Common.{List, ℤ, get_or, pos, rules, subst, FitsSigned, w64}
use Rattle.std.proofs.lemmas.Int.{to_z-of_z}
use Rattle.std.proofs.lemmas.List.{drop_all}
use Rattle.cps_model.specs.Sequences.{Accepts}
use Rattle.cps_eval.specs.Runs.{SomeAccepts}
use Rattle.cps_eval.proofs.Stepping.{AreAfter, accepts_more}
use Rattle.cps_eval.proofs.automata.end_states.Goals as goal

pub loop-label-preserved : goal.loop-label-preserved
loop-label-preserved c =
    let steps = c.args.steps.now in
    let labels = c.args.labels.now in
    let k = c.loop-label.label-index in
    let states = c.loop-label.states.items in
    let after = c.in_ok-states.states.items in
    let fits : FitsSigned w64 (get_or labels k (pos 0)) = search rules in
    let next = simp to_z-of_z at c.in_ok-states.ensures in
    let this : AreAfter steps (get_or labels k (pos 0)) states after = subst (λ (xs : List ℤ). AreAfter steps (get_or labels k (pos 0)) xs after) c.as_slice.ensures.value next in
    λ finals.
    (let step = accepts_more steps finals states after labels k c.loop-label-test.true this in
    let before = c.loop-label.invariant finals in
    (λ h. before.0 (step.0 h), λ h. step.1 (before.1 h)))

pub returns : goal.returns
returns c =
    let fits : FitsSigned w64 c.args.start = c.ranges.start in
    let so_far = simp to_z-of_z at c.loop-label.invariant in
    λ finals. subst (λ (ls : List ℤ). SomeAccepts c.args.steps.now finals c.loop-label.states.items ls ↔ Accepts c.args.steps.now finals c.args.start c.args.labels.now) (drop_all c.loop-label.label-index c.args.labels.now c.loop-label-test.false) (so_far finals)
