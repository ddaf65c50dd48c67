use Rattle.cps_learning_tests.proofs.Settling.{IsBaseAtRest-none}
use Rattle.cps_learning_tests.proofs.bases.reads.Goals as goal

pub settle_more-requires-clause-rest : goal.settle_more-requires-clause-rest
settle_more-requires-clause-rest c = IsBaseAtRest-none c.new-base.result c.in_ok-store.store c.new-base.ensures c.in_ok-store.ensures.entries
