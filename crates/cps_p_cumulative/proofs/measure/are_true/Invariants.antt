use Rattle.std.proofs.Common.{take}
use Rattle.std.specs.List.{All}
use Rattle.cps_trail.specs.Trail.{IsTrueNow}
use Rattle.cps_p_cumulative.proofs.measure.are_true.Given as goal

abbrev pub invariant-loop-atom : goal.invariant-loop-atom
invariant-loop-atom l = All (IsTrueNow l.past) (take l.atom-index l.atoms)
