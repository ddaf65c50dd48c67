use Rattle.std.proofs.Common.{map}
use Rattle.cps_domain.specs.Window.{intervals}
use Rattle.cps_reform.proofs.Objectives.{GreatestSoFar}
use Rattle.cps_reform.proofs.objective.greatest_sum.Given as goal

abbrev pub invariant-loop-term : goal.invariant-loop-term
invariant-loop-term l = GreatestSoFar (map intervals l.domains) l.terms l.term-index l.sum
