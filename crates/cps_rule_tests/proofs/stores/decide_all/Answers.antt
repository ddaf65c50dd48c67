use Rattle.std.proofs.Common.{◌∙◌}
use Rattle.cps_rule_tests.proofs.stores.decide_all.Goals as goal

pub loop-comparison-preserved : goal.loop-comparison-preserved
loop-comparison-preserved c = (c.in_ok-decide.ensures.first ∙ c.loop-comparison.invariant.0, λ none. c.in_ok-decide.ensures.notes (c.loop-comparison.invariant.1 none))
