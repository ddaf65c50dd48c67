use Rattle.std.proofs.Common.{length, ◌≡◌}
use Rattle.cps_p_arith.proofs.relax.relax_end.Given as goal

abbrev pub invariant-loop : goal.invariant-loop
invariant-loop l = length l.bounds.members.items ≡ length l.demand.exprs.items
