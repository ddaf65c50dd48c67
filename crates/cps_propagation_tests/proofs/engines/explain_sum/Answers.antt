use Rattle.std.proofs.Common.{Ok, ap}
use Rattle.cps_propagation_tests.proofs.SumFits.{sum_fits}
use Rattle.cps_propagation_tests.proofs.engines.explain_sum.Goals as goal

pub run_on-requires-clause-fits : goal.run_on-requires-clause-fits
run_on-requires-clause-fits c = sum_fits c.in_ok-store.store.first c.args.engine.now.tasks c.in_ok-store.ensures.first c.requires

pub explain_last-requires : goal.explain_last-requires
explain_last-requires c = c.in_ok-is_settled.ensures (ap Ok c.if-is_settled.true)
