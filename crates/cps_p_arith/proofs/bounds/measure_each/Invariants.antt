use Rattle.std.proofs.Common.{take, length, ◌≡◌}
use Rattle.std.specs.List.{AllZip}
use Rattle.cps_p_arith.specs.Demands.{AreEndsNow}
use Rattle.cps_p_arith.proofs.bounds.measure_each.Given as goal

abbrev pub invariant-loop-subject : goal.invariant-loop-subject
invariant-loop-subject l = record { len : length l.ends.items ≡ l.subject-index; hulls : AllZip (AreEndsNow l.past) (take l.subject-index l.exprs) l.ends.items }
