use Rattle.std.proofs.Common.{ℕ, ◌<◌, take}
use Rattle.std.specs.List.{All}
use Rattle.cps_rule_tests.proofs.runs.are_below.Given as goal

abbrev pub invariant-loop-subject : goal.invariant-loop-subject
invariant-loop-subject l = All (λ (i : ℕ). i < l.count) (take l.subject-index l.subjects)
