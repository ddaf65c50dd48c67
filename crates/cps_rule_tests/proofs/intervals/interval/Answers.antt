use Rattle.cps_rule_tests.proofs.Readiness.{plain_by}
use Rattle.cps_rule_tests.proofs.intervals.interval.Goals as goal

pub returns : goal.returns
returns c = plain_by c.in_ok-propagator.propagator _ c.in_ok-propagator.ensures c.new.ensures (λ first. tt)
