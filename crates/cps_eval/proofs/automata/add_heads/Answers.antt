-- One head more, and none that is left.
use Rattle.std.specs.Prelude.{map}
use Rattle.std.proofs.Common.{List, get_or, refl, arith, rules, FitsSigned, w64}
use Rattle.std.proofs.lemmas.Int.{to_z-of_z}
use Rattle.cps_model.specs.declared.parts.Transition.{Transition}
use Rattle.cps_eval.proofs.Computing.{map_more, all_done}
use Rattle.cps_eval.proofs.Stepping.{no_step}
use Rattle.cps_eval.proofs.automata.add_heads.Goals as goal

pub loop-step-preserved : goal.loop-step-preserved
loop-step-preserved c =
    let steps = c.args.steps.now in
    let k = c.loop-step.step-index in
    let fits : FitsSigned w64 (get_or steps k no_step).head = search rules in
    let items = simp to_z-of_z at c.in_ok-push.ensures.items in
    rw items (map_more (λ (step : Transition). step.head) steps c.loop-step.states.items _ k no_step (omega arith) c.loop-step.invariant)

pub returns : goal.returns
returns c = all_done (λ (steps : List Transition). map (λ step. step.head) steps) c.args.steps.now c.loop-step.states.items _ c.loop-step.step-index refl (omega arith) c.loop-step.invariant
