-- The subject that is taken of those so far.
use Rattle.std.proofs.Common.{take}
use Rattle.cps_branch.specs.Strategies.{IsTaken}
use Rattle.cps_branch.proofs.strategy.least_ranked.Given as goal

abbrev pub invariant-loop-place : goal.invariant-loop-place
invariant-loop-place l = IsTaken l.choose l.store (take l.place l.subjects) l.best.subject l.best.rank
