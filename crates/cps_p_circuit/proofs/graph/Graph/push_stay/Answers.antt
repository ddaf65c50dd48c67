-- Each arc before the one that is looked at is left out, where it is a loop at the node.
use Rattle.std.proofs.Common.{◌∙◌, arith}
use Rattle.cps_p_circuit.specs.Clashes.{leaving}
use Rattle.cps_p_circuit.proofs.Clashes.{lifted, stay_more}
use Rattle.cps_p_circuit.proofs.Walks.{stay_less, stayed}
use Rattle.cps_p_circuit.proofs.graph.Graph.push_stay.Goals as goal
use Rattle.cps_p_circuit.proofs.graph.Graph.push_stay.Goals.{then-tail-node-via-then-tail-node, then-tail-node-via-else-tail-node+then-head-node}

pub loop-j-preserved-then-tail-node : goal.loop-j-preserved-then-tail-node
loop-j-preserved-then-tail-node c = record {
  grows = c.loop-j.invariant.grows;
  each = stay_less c.args.self.now.from.items c.args.self.now.to.items c.loop-j.used.items c.tail-node.result c.loop-j.j (elim c.then-tail-node.branch [
    | then-tail-node-via-then-tail-node w ↦ λ p q. w.if-tail-node.true (c.tail.ensures.is ∙ p)
    | then-tail-node-via-else-tail-node+then-head-node w ↦ λ p q. w.if-head-node.true (w.head.ensures.is ∙ q)
  ]) c.loop-j.invariant.each;
}

pub loop-j-preserved : goal.loop-j-preserved
loop-j-preserved c = record {
  grows = λ p h. lifted _ _ (leaving c.loop-j.j) p c.in_ok-push.ensures.items (c.loop-j.invariant.grows p h);
  each = stay_more _ _ _ _ _ c.loop-j.j c.in_ok-push.ensures.items c.loop-j.invariant.each;
}

pub returns-clause-sure : goal.returns-clause-sure
returns-clause-sure c = stayed c.args.self.now.from.items c.args.self.now.to.items c.loop-j.used.items c.args.k c.tail-node.result c.loop-j.j c.requires c.tail-node.ensures.is (omega (arith, c.arcs-j-end.ensures, c.loop-j-test.false)) c.loop-j.invariant.each
