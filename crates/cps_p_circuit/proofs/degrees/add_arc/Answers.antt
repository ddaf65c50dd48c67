use Rattle.cps_p_circuit.proofs.ArcsAtNodes.{arc_is}
use Rattle.cps_p_circuit.proofs.degrees.add_arc.Goals as goal

pub returns : goal.returns
returns c = record {
  none = λ e. absurd (c.if-by-eq0.false e);
  some = λ t e. (_, (λ d. arc_is c.args.literals.now c.args.by t _ d e c.requires), c.in_ok-push.ensures.items);
}
