-- The workers so far have none of the best solutions.
use Rattle.std.proofs.Common.{◌≡◌, drop}
use Rattle.cps_crew.specs.Outcomes.{best_of}
use Rattle.cps_crew.proofs.conclusion.solution_of.Given as goal

abbrev pub invariant-loop-ended : goal.invariant-loop-ended
invariant-loop-ended l = best_of l.model l.ends ≡ best_of l.model (drop l.ended-index l.ends)
