use Rattle.cps_p_circuit.specs.Counts.{AreCounted}
use Rattle.cps_p_circuit.proofs.degrees.count.Given as goal

abbrev pub invariant-loop-k : goal.invariant-loop-k
invariant-loop-k l = AreCounted l.ends l.states l.nodes l.k l.degrees.items
