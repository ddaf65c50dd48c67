use Rattle.std.proofs.Common.{length}
use Rattle.cps_p_sequence.specs.Cuts.{AreCome}
use Rattle.cps_p_sequence.proofs.cuts.cut.Given as goal

abbrev pub invariant-loop-subject : goal.invariant-loop-subject
invariant-loop-subject l = AreCome l.past l.goal l.net.steps.now l.net.first (length l.net.last.now) l.net.subjects.now l.subject-index l.facts.items l.reached.items
