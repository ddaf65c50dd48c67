use Rattle.std.proofs.Common.{length, ◌≡◌}
use Rattle.cps_p_arith.proofs.relax.relax.Given as goal

abbrev pub invariant-loop-k : goal.invariant-loop-k
invariant-loop-k l = length l.bounds.members.items ≡ length l.demand.exprs.items
