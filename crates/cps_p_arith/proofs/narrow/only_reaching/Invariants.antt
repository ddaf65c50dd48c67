use Rattle.cps_p_arith.proofs.Reaching.{IsReachingAmong}
use Rattle.cps_p_arith.proofs.narrow.only_reaching.Given as goal

abbrev pub invariant-loop-k : goal.invariant-loop-k
invariant-loop-k l = IsReachingAmong l.target l.members l.k l.only
