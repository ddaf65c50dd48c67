-- The subjects so far are fixed.
use Rattle.std.proofs.Common.{ℕ, ◌<◌, ◌≤◌}
use Rattle.cps_branch.specs.Fixed.{IsFixed}
use Rattle.cps_branch.proofs.scan.first_open.Given as goal

abbrev pub invariant-loop-subject : goal.invariant-loop-subject
invariant-loop-subject l = (i : ℕ) → l.from ≤ i → i < l.subject → IsFixed l.store i
