use Rattle.cps_p_linear.proofs.Gauges.{SortedSoFar}
use Rattle.cps_p_linear.proofs.gauge.sort_out.Given as goal

abbrev pub invariant-loop-place : goal.invariant-loop-place
invariant-loop-place l = SortedSoFar l.terms l.fn.gauge l.gauge l.limit l.widest l.place
