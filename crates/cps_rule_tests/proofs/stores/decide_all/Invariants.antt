use Rattle.std.proofs.Common.{◌≡◌}
use Rattle.cps_rule_tests.specs.Noted.{HasNoRuleNotes}
use Rattle.cps_rule_tests.proofs.stores.decide_all.Given as goal

abbrev pub invariant-loop-comparison : goal.invariant-loop-comparison
invariant-loop-comparison l = (l.store.first ≡ l.fn.store.first) × (HasNoRuleNotes l.fn.store → HasNoRuleNotes l.store)
