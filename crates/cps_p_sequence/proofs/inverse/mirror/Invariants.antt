use Rattle.cps_p_sequence.proofs.Finding.{Mirrors}
use Rattle.cps_p_sequence.proofs.inverse.mirror.Given as goal

abbrev pub invariant-loop-place : goal.invariant-loop-place
invariant-loop-place l = Mirrors l.store l.direct l.inverse l.place l.fn.found.items l.found.items
