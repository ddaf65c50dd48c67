use Rattle.std.proofs.Common.{sym, subst}
use Rattle.std.specs.List.{All}
use Rattle.cps_instance.specs.Terms.{Domains}
use Rattle.cps_instance.specs.Fitting.{IsFitting}
use Rattle.cps_propagation_tests.proofs.engines.entries_at_rest.Goals as goal

pub run_on-requires-clause-fits : goal.run_on-requires-clause-fits
run_on-requires-clause-fits c = subst (λ (f : Domains). All (IsFitting f) c.args.engine.now.tasks) (sym c.in_ok-store.ensures.first) c.requires
