use Rattle.std.specs.List.{All}
use Rattle.cps_instance.specs.Fitting.{IsNeverNegative}
use Rattle.cps_rule_tests.proofs.resources.demands_of.Given as goal

abbrev pub invariant-loop-demand : goal.invariant-loop-demand
invariant-loop-demand l = All (IsNeverNegative l.store.first) l.subjects.items
