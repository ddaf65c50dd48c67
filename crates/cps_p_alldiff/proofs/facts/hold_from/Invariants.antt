use Rattle.cps_p_alldiff.proofs.FactPositions.{HoldsSoFar}
use Rattle.cps_p_alldiff.proofs.facts.hold_from.Given as goal

abbrev pub invariant-loop-place : goal.invariant-loop-place
invariant-loop-place l = HoldsSoFar l.past l.subjects l.crowd.apart l.crowd.hall l.crowd.needed l.left l.place l.facts.items
