-- No more than at first.
use Rattle.std.proofs.Common.{◌≤◌}
use Rattle.cps_branch.proofs.fixed.still_known.Given as goal

abbrev pub invariant-loop-count : goal.invariant-loop-count
invariant-loop-count l = l.count ≤ l.known

abbrev pub decreases-loop-count : goal.decreases-loop-count
decreases-loop-count l = l.count
