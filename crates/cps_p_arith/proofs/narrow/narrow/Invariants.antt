use Rattle.cps_p_arith.proofs.Resting.{NarrowsUpTo}
use Rattle.cps_p_arith.proofs.narrow.narrow.Given as goal

abbrev pub invariant-loop-k : goal.invariant-loop-k
invariant-loop-k l = NarrowsUpTo l.bounds l.demand l.k l.found.items
