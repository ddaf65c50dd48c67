use Rattle.cps_p_cumulative.proofs.Profiled.{IsProfileTo}
use Rattle.cps_p_cumulative.proofs.measure.measure.Given as goal

abbrev pub invariant-loop-k : goal.invariant-loop-k
invariant-loop-k l = IsProfileTo l.past l.spans l.demands l.k l.parts.items
