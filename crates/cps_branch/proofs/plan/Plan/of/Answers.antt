-- The subjects of an instance's strategies are the instance's.
use Rattle.std.proofs.Common.{List, length, sym, subst, ◌∙◌}
use Rattle.cps_instance.specs.declared.steering.Steering.{Steering}
use Rattle.cps_branch.specs.Strategies.{AreWithin}
use Rattle.cps_branch.proofs.StrategyChoices.{steering_within}
use Rattle.cps_branch.proofs.plan.Plan.of.Goals as goal

pub over-requires-clause-within : goal.over-requires-clause-within
over-requires-clause-within c =
    let count = length c.domains-subjects.result.now in
    subst (λ (gs : List Steering). AreWithin count gs) (sym (c.in_ok-strategies.ensures ∙ c.steering.ensures.list))
    (steering_within c.args.instance.now count c.domains-subjects.ensures.count c.domains-subjects.ensures.sound)
