-- The workers so far have no core that counts.
use Rattle.std.proofs.Common.{◌≡◌, drop}
use Rattle.cps_crew.specs.Outcomes.{core_of}
use Rattle.cps_crew.proofs.conclusion.core_of.Given as goal

abbrev pub invariant-loop-ended : goal.invariant-loop-ended
invariant-loop-ended l = core_of l.ends ≡ core_of (drop l.ended-index l.ends)
