use Rattle.cps_rule_tests.proofs.Readiness.{ready_under}
use Rattle.cps_rule_tests.proofs.intervals.enforced.Goals as goal

pub returns : goal.returns
returns c = ready_under c.args.store.now.first c.in_ok-propagator.propagator _ c.in_ok-propagator.ensures c.in_ok-enforcement.ensures.fit tt
