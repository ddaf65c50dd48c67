use Rattle.std.proofs.Common.{◌≡◌, take}
use Rattle.cps_p_circuit.specs.Graphs.{arcs_by}
use Rattle.cps_p_circuit.proofs.decided.taken_arcs.Given as goal

abbrev pub invariant-loop-k : goal.invariant-loop-k
invariant-loop-k l = l.arcs.items ≡ arcs_by l.graph.nodes.items l.graph.from.items l.graph.to.items (take l.k l.taken)
