-- One more strategy lists its subjects after the others.
use Rattle.std.proofs.Common.{◌++◌, List, ℕ, take, ap, arith, ◌∙◌}
use Rattle.std.proofs.lemmas.List.{take_all}
use Rattle.cps_instance.specs.declared.steering.Steering.{Steering}
use Rattle.cps_branch.specs.Strategies.{listed}
use Rattle.cps_branch.proofs.Plans.{listed_more}
use Rattle.cps_branch.proofs.plan.subjects_of.Goals as goal

pub loop-strategy-preserved : goal.loop-strategy-preserved
loop-strategy-preserved c =
    let gs = c.args.strategies.now in
    let k = c.loop-strategy.strategy-index in
    c.in_ok-extend_from_slice.ensures.items ∙ ap (λ (is : List ℕ). is ++ c.as_slice.result.now) c.loop-strategy.invariant ∙ ap (λ (is : List ℕ). listed (take k gs) ++ is) c.as_slice.ensures
    ∙ listed_more gs k c.strategy-item.result (omega arith) c.strategy-item.is

pub returns : goal.returns
returns c = c.loop-strategy.invariant ∙ ap (λ (gs : List Steering). listed gs) (take_all c.loop-strategy.strategy-index c.args.strategies.now (omega arith))
