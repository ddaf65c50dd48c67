use Rattle.std.proofs.Common.{take}
use Rattle.cps_conflict.specs.Leading.{MarksReason}
use Rattle.cps_conflict.proofs.leading.mark_reason.Given as goal

abbrev pub invariant-loop-atom : goal.invariant-loop-atom
invariant-loop-atom l = MarksReason l.store (take l.atom-index l.reason) l.implied l.fn.marks l.marks
