use Rattle.cps_learning_tests.proofs.bases.watches.Goals as goal

pub watches-requires : goal.watches-requires
watches-requires c = (c.in_force.ensures.0 c.if-not-in_force.false).within
