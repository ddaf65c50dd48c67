use Rattle.cps_p_circuit.specs.Clashes.{NoneLeadsOut, GrowsSigns}
use Rattle.cps_p_circuit.proofs.graph.Graph.push_left.Given as goal

abbrev pub invariant-loop-k : goal.invariant-loop-k
invariant-loop-k l = record {
  grows : GrowsSigns l.initial.used.items l.used.items;
  left : NoneLeadsOut l.self.from.items l.self.to.items l.via l.used.items l.k;
}
