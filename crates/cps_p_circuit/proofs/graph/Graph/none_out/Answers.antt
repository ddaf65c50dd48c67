use Rattle.std.proofs.Common.{arith}
use Rattle.cps_p_circuit.proofs.Clashes.{none_out}
use Rattle.cps_p_circuit.proofs.DistinctAnswers.{no_not_yes}
use Rattle.cps_p_circuit.proofs.graph.Graph.none_out.Goals as goal

pub returns : goal.returns
returns c = λ _. none_out c.args.self.now.nodes.items c.args.self.now.from.items c.args.self.now.to.items _ c.args.node c.args.self.now.numbered (omega (arith, c.if-node-len.false)) (rw c.as_slice.ensures.value at (rw c.arcs.ensures at c.in_ok-push_none.ensures))
