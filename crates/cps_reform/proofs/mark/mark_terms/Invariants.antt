use Rattle.cps_reform.proofs.CoreMarks.{MarkedUpTo}
use Rattle.cps_reform.proofs.mark.mark_terms.Given as goal

abbrev pub invariant-loop-place : goal.invariant-loop-place
invariant-loop-place l = MarkedUpTo l.initial.terms l.terms l.failed l.decisions l.place
