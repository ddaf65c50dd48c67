use Rattle.std.proofs.Common.{arith}
use Rattle.cps_p_linear.proofs.explain.explain_term.Goals as goal

pub by_cut-requires-clause-end : goal.by_cut-requires-clause-end
by_cut-requires-clause-end c = record { place = omega (arith, c.if-place-terms.false); measured = c.requires.measured; goal = c.in-Some.ensures }
