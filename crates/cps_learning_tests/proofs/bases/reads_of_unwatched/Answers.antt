use Rattle.cps_learning_tests.proofs.Settling.{IsBaseAtRest-none, IsBaseReady-decided}
use Rattle.cps_learning_tests.proofs.bases.reads_of_unwatched.Goals as goal

pub settle_more-requires-clause-rest : goal.settle_more-requires-clause-rest
settle_more-requires-clause-rest c = IsBaseAtRest-none c.new-base.result c.in_ok-store.store c.new-base.ensures c.in_ok-store.ensures.entries

pub settle-requires : goal.settle-requires
settle-requires c = IsBaseReady-decided _ _ _ _ _ c.in_ok-decide.ensures c.entries-from.ensures.views.same_length c.in_ok-before.ensures.rest
