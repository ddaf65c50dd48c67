use Rattle.cps_conflict.specs.Nodes.{PassesAtoms}
use Rattle.cps_conflict.proofs.minimiser.Minimiser.passed.Given as goal

abbrev pub invariant-loop-index : goal.invariant-loop-index
invariant-loop-index l = PassesAtoms l.self l.node (l.index, l.latest)
