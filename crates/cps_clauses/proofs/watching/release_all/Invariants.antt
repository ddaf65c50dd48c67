use Rattle.cps_clauses.proofs.ReleasedWatchers.{AreReleasedTo}
use Rattle.cps_clauses.proofs.watching.release_all.Given as goal

abbrev pub invariant-loop-slot : goal.invariant-loop-slot
invariant-loop-slot l = AreReleasedTo l.dropped l.initial.lists.items l.lists.items l.slot
