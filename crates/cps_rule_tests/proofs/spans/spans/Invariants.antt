use Rattle.std.specs.List.{All}
use Rattle.std.proofs.Common.{◌≡◌, length}
use Rattle.cps_instance.specs.Fitting.{IsFittingSpan}
use Rattle.cps_rule_tests.proofs.spans.spans.Given as goal

abbrev pub invariant-loop-shape : goal.invariant-loop-shape
invariant-loop-shape l = record { fit : All (IsFittingSpan l.store.first) l.spans.items; count : length l.spans.items ≡ l.shape-index }
