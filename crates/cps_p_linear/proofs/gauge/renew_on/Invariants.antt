use Rattle.cps_p_linear.proofs.Gauges.{OnSoFar}
use Rattle.cps_p_linear.proofs.gauge.renew_on.Given as goal

abbrev pub invariant-loop-above : goal.invariant-loop-above
invariant-loop-above l = OnSoFar l.store l.terms l.fn.gauge l.subject l.above l.gauge

abbrev pub decreases-loop-above : goal.decreases-loop-above
decreases-loop-above l = l.above
