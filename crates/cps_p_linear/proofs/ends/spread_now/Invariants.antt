use Rattle.cps_p_linear.proofs.Reaches.{SpreadSoFar}
use Rattle.cps_p_linear.proofs.ends.spread_now.Given as goal

abbrev pub invariant-loop-term : goal.invariant-loop-term
invariant-loop-term l = SpreadSoFar l.store l.terms l.term-index l.sum l.widest
