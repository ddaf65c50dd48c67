-- Each arc before the one that is looked at is left out, where it leads out.
use Rattle.std.proofs.Common.{slice_index, ap, ◌∙◌, arith}
use Rattle.cps_p_circuit.specs.Clashes.{leaving}
use Rattle.cps_p_circuit.proofs.Clashes.{lifted, left_more, least}
use Rattle.cps_p_circuit.proofs.Walks.{left_less, left_all}
use Rattle.cps_p_circuit.proofs.graph.Graph.push_left.Goals as goal
use Rattle.cps_p_circuit.proofs.graph.Graph.push_left.Goals.{then-via-tail-ne1-via-then-via-tail-ne1, then-via-tail-ne1-via-else-via-tail-ne1+then-via-head-ne0}

pub loop-k-preserved-then-via-tail-ne1 : goal.loop-k-preserved-then-via-tail-ne1
loop-k-preserved-then-via-tail-ne1 c =
    let via = c.args.via.now in
    record {
      grows = c.loop-k.invariant.grows;
      left = left_less c.args.self.now.from.items c.args.self.now.to.items via c.loop-k.used.items c.loop-k.k (elim c.then-via-tail-ne1.branch [
        | then-via-tail-ne1-via-then-via-tail-ne1 w ↦ λ p q. w.if-via-tail-ne1.true (ap (slice_index via) c.tail.ensures.is ∙ p)
        | then-via-tail-ne1-via-else-via-tail-ne1+then-via-head-ne0 w ↦ λ p q. w.if-via-head-ne0.true (ap (slice_index via) w.head.ensures.is ∙ q)
      ]) c.loop-k.invariant.left;
    }

pub loop-k-preserved : goal.loop-k-preserved
loop-k-preserved c = record {
  grows = λ p h. lifted _ _ (leaving c.loop-k.k) p c.in_ok-push.ensures.items (c.loop-k.invariant.grows p h);
  left = left_more c.args.self.now.from.items c.args.self.now.to.items c.args.via.now _ _ c.loop-k.k c.in_ok-push.ensures.items c.loop-k.invariant.left;
}

pub returns-clause-left : goal.returns-clause-left
returns-clause-left c =
    let from = c.args.self.now.from.items in
    let to = c.args.self.now.to.items in
    left_all from to c.args.via.now c.loop-k.used.items (least from to) c.loop-k.k (omega (arith, c.arcs-k-end.ensures, c.loop-k-test.false)) c.loop-k.invariant.left
