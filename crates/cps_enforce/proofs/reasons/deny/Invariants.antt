use Rattle.std.proofs.Common.{take}
use Rattle.cps_enforce.specs.Reasons.{DeniesFacts}
use Rattle.cps_enforce.proofs.reasons.deny.Given as goal

abbrev pub invariant-loop-fact : goal.invariant-loop-fact
invariant-loop-fact l = DeniesFacts l.past (take l.fact-index l.facts) l.fn.reason.items l.reason.items
