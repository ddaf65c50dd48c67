use Rattle.std.proofs.Common.{◌≡◌, map, take}
use Rattle.cps_clauses.specs.InForce.{marked}
use Rattle.cps_clauses.specs.Bases.{number_at}
use Rattle.cps_clauses.proofs.forget.marks_with.Given as goal

abbrev pub invariant-loop-place : goal.invariant-loop-place
invariant-loop-place l = l.marks.items ≡ marked l.dropped (map (number_at l.learnt) (take l.place-index l.which))
