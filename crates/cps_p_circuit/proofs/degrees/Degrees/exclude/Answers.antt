use Rattle.cps_p_circuit.proofs.ArcsAtNodes.{leaves_more, give_both}
use Rattle.cps_p_circuit.proofs.degrees.Degrees.exclude.Goals as goal

pub loop-k-preserved : goal.loop-k-preserved
loop-k-preserved c = record {
  given = give_both c.args.graph.now c.args.literals.now c.args.self.now.states.items c.args.found.now.items c.loop-k.found.items _ c.loop-k.invariant.given c.in_ok-exclude_at.ensures.given;
  rests = leaves_more c.args.graph.now c.args.literals.now c.args.self.now c.loop-k.k c.args.found.now.items c.loop-k.found.items _ c.in_ok-exclude_at.ensures.rests c.loop-k.invariant.rests;
}
