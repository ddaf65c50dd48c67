use Rattle.cps_learning_tests.proofs.Settling.{IsBaseReady-decided}
use Rattle.cps_learning_tests.proofs.conflicts.lead_by_clauses.Goals as goal

pub settle-requires : goal.settle-requires
settle-requires c = IsBaseReady-decided _ _ _ _ _ c.in_ok-decide.ensures c.entries-from.ensures.views.same_length c.in_ok-settle_more-2.ensures.rest
