use Rattle.std.specs.List.{All}
use Rattle.std.proofs.Common.{◌≡◌, length}
use Rattle.cps_instance.specs.Fitting.{IsLiteral}
use Rattle.cps_rule_tests.proofs.spans.literals.Given as goal

abbrev pub invariant-loop-subject : goal.invariant-loop-subject
invariant-loop-subject l = record { fit : All (IsLiteral l.store.first) l.atoms.items; count : length l.atoms.items ≡ l.subject-index }
