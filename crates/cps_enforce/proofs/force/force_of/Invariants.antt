use Rattle.cps_enforce.proofs.Forces.{IsForceSoFar}
use Rattle.cps_enforce.proofs.force.force_of.Given as goal

abbrev pub invariant-loop-place : goal.invariant-loop-place
invariant-loop-place l = IsForceSoFar l.past l.enforcement l.place l.found
