use Rattle.cps_rule_tests.proofs.Readiness.{ready_by}
use Rattle.cps_rule_tests.proofs.resources.cumulative.Goals as goal

pub returns : goal.returns
returns c = ready_by c.args.store.now.first c.in_ok-propagator.propagator _ c.in_ok-propagator.ensures c.new.ensures (record { spans_fit = c.in_ok-intervals.ensures.fit; demands_fit = c.in_ok-demands.ensures })
