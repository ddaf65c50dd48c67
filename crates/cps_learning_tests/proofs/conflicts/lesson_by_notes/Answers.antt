use Rattle.cps_learning_tests.proofs.Settling.{IsBaseAtRest-none}
use Rattle.cps_learning_tests.proofs.conflicts.lesson_by_notes.Goals as goal

pub lead_by_clauses-requires-clause-rest : goal.lead_by_clauses-requires-clause-rest
lead_by_clauses-requires-clause-rest c = IsBaseAtRest-none c.new-base.result c.in_ok-store.store c.new-base.ensures c.in_ok-store.ensures.entries

pub taught-requires : goal.taught-requires
taught-requires c = c.in_ok-lead_by_clauses.ensures.given
