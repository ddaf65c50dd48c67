use Rattle.cps_rule_tests.proofs.Readiness.{no_literals}
use Rattle.cps_rule_tests.proofs.runs.trial.Goals as goal

pub run-requires-clause-ready : goal.run-requires-clause-ready
run-requires-clause-ready g c = record { enforcement = no_literals c.in_ok-store.store.first _ c.requires.enforcement; body = c.requires.body c.in_ok-store.store.first }
