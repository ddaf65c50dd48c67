use Rattle.std.proofs.Common.{take, []}
use Rattle.cps_propagate.specs.Notes.{DeniesPast}
use Rattle.cps_enforce.proofs.reasons.deny_all.Given as goal

abbrev pub invariant-loop-subject : goal.invariant-loop-subject
invariant-loop-subject l = DeniesPast l.store l.place (take l.subject-index l.subjects) [] l.reason.items
