use Rattle.cps_p_circuit.proofs.Clashes.{pair_out}
use Rattle.cps_p_circuit.proofs.graph.Graph.two_out.Goals as goal

pub returns : goal.returns
returns c = λ ok. pair_out c.args.self.now.nodes.items c.args.self.now.from.items c.args.self.now.to.items _ c.args.pair.0 c.args.pair.1 (rw c.as_slice.ensures.value at (rw c.arcs.ensures at (c.push_two.ensures ok)))
