use Rattle.cps_p_sequence.proofs.Finding.{KeptWithin}
use Rattle.cps_p_sequence.proofs.inverse.keep_within.Given as goal

abbrev pub invariant-loop-subject : goal.invariant-loop-subject
invariant-loop-subject l = KeptWithin l.store l.subjects l.count l.subject-index l.fn.found.items l.found.items
