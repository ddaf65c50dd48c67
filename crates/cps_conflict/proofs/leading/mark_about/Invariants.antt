use Rattle.cps_conflict.specs.Leading.{MarkedSoFar}
use Rattle.cps_conflict.proofs.leading.mark_about.Given as goal

abbrev pub invariant-loop-found : goal.invariant-loop-found
invariant-loop-found l = MarkedSoFar l.store l.subject l.count l.found l.fn.marks l.marks

abbrev pub decreases-loop-found : goal.decreases-loop-found
decreases-loop-found l = l.found
