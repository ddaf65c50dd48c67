use Rattle.std.proofs.Common.{◌≡◌, take}
use Rattle.cps_clauses.proofs.literals.Literals.to_clause.Given as goal

abbrev pub invariant-loop-place : goal.invariant-loop-place
invariant-loop-place l = l.clause ≡ take l.place l.self
