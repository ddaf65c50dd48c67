use Rattle.cps_propagation_tests.proofs.SumFits.{idle_fit}
use Rattle.cps_propagation_tests.proofs.engines.settles.Goals as goal

pub run-requires : goal.run-requires
run-requires c = idle_fit c.in_ok-store.store.first c.args.engine.now.tasks c.requires
