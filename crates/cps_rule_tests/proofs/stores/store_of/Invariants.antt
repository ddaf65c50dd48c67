-- The domains so far.
use Rattle.std.specs.List.{All}
use Rattle.cps_domain.specs.Window.{intervals}
use Rattle.cps_instance.specs.Terms.{AreIntervals}
use Rattle.cps_rule_tests.proofs.stores.store_of.Given as goal

abbrev pub invariant-loop-each : goal.invariant-loop-each
invariant-loop-each l = All (λ d. AreIntervals (intervals d)) l.domains.items
