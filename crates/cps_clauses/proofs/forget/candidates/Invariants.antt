use Rattle.cps_clauses.proofs.NamedClauses.{AreCandidatesTo}
use Rattle.cps_clauses.proofs.forget.candidates.Given as goal

abbrev pub invariant-loop-place : goal.invariant-loop-place
invariant-loop-place l = AreCandidatesTo l.clauses l.dropped l.learnt l.store l.place l.found.items
