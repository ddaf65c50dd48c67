use Rattle.std.proofs.Common.{min, length}
use Rattle.cps_p_circuit.specs.Clashes.{AreChosen, GrowsSigns}
use Rattle.cps_p_circuit.proofs.graph.Graph.push_chosen.Given as goal

abbrev pub invariant-loop-v : goal.invariant-loop-v
invariant-loop-v l = record {
  grows : GrowsSigns l.initial.used.items l.used.items;
  chosen : AreChosen l.self.from.items l.self.to.items (min (length l.self.from.items) (length l.self.to.items)) l.via l.used.items l.v;
}
