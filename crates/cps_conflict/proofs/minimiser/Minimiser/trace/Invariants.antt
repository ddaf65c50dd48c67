use Rattle.cps_conflict.specs.Nodes.{TraceSoFar}
use Rattle.cps_conflict.proofs.minimiser.Minimiser.trace.Given as goal

abbrev pub invariant-loop-index : goal.invariant-loop-index
invariant-loop-index l = TraceSoFar l.store l.resolvent.earlier l.entry l.fn.self l.self l.latest l.index
