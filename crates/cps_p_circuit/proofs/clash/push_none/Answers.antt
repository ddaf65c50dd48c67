-- Each arc before the one that is looked at is left out, where it has the node for its end.
use Rattle.cps_p_circuit.proofs.Walks.{end_more, end_less, deserted}
use Rattle.cps_p_circuit.proofs.clash.push_none.Goals as goal

pub loop-j-preserved-then-ends-j : goal.loop-j-preserved-then-ends-j
loop-j-preserved-then-ends-j c = end_less c.args.ends.now c.loop-j.used.items c.args.node c.loop-j.j c.if-ends-j.true c.loop-j.invariant

pub loop-j-preserved : goal.loop-j-preserved
loop-j-preserved c = end_more c.args.ends.now c.loop-j.used.items c.push.new.self.items c.args.node c.loop-j.j c.in_ok-push.ensures.items c.loop-j.invariant

pub returns : goal.returns
returns c = deserted c.args.ends.now c.args.arcs c.args.node c.loop-j.j c.loop-j.used.items c.loop-j-test.false c.loop-j.invariant
