use Rattle.std.proofs.Common.{take}
use Rattle.cps_propagate.specs.Reasons.{Refutes}
use Rattle.cps_propagate.proofs.explain.deny.Given as goal

abbrev pub invariant-loop-fact : goal.invariant-loop-fact
invariant-loop-fact l = Refutes l.fn.reason.items l.reason.items (take l.fact-index l.facts)
