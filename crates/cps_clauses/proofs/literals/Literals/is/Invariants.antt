use Rattle.std.proofs.Common.{◌≡◌, take}
use Rattle.cps_clauses.proofs.literals.Literals.is.Given as goal

abbrev pub invariant-loop-place : goal.invariant-loop-place
invariant-loop-place l = take l.place l.self ≡ take l.place l.atoms
