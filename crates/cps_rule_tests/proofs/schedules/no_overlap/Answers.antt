use Rattle.cps_rule_tests.proofs.Readiness.{ready_by}
use Rattle.cps_rule_tests.proofs.schedules.no_overlap.Goals as goal

pub returns : goal.returns
returns c = ready_by c.args.store.now.first c.in_ok-propagator.propagator _ c.in_ok-propagator.ensures c.new.ensures c.in_ok-intervals.ensures.fit
