use Rattle.cps_p_sequence.proofs.Finding.{KeptApart}
use Rattle.cps_p_sequence.proofs.inverse.keep_apart.Given as goal

abbrev pub invariant-loop-place : goal.invariant-loop-place
invariant-loop-place l = KeptApart l.store l.one.subject l.one.number l.others l.place l.fn.found.items l.found.items
