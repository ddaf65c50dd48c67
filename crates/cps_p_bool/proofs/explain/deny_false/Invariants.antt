use Rattle.std.proofs.Common.{take}
use Rattle.cps_p_bool.proofs.LazyReasons.{IsDeniedSoFar}
use Rattle.cps_p_bool.proofs.explain.deny_false.Given as goal

abbrev pub invariant-loop-atom : goal.invariant-loop-atom
invariant-loop-atom l = IsDeniedSoFar l.past l.fn.reason.items l.reason.items (take l.atom-index l.atoms)
