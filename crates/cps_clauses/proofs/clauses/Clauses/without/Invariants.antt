use Rattle.std.proofs.Common.{◌≡◌, take}
use Rattle.cps_clauses.specs.InForce.{blanked}
use Rattle.cps_clauses.proofs.clauses.Clauses.without.Given as goal

abbrev pub invariant-loop-place : goal.invariant-loop-place
invariant-loop-place l = l.left ≡ take l.place (blanked l.self l.dropped)
