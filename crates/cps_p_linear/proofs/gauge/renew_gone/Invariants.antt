use Rattle.cps_p_linear.proofs.Gauges.{GoneSoFar}
use Rattle.cps_p_linear.proofs.gauge.renew_gone.Given as goal

abbrev pub invariant-loop-place : goal.invariant-loop-place
invariant-loop-place l = GoneSoFar l.store l.terms l.fn.gauge.is_read l.count l.place l.gauge
