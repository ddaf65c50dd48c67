use Rattle.cps_p_circuit.proofs.ShownFacts.{explained}
use Rattle.cps_p_circuit.proofs.rule.Circuit.reason.Goals as goal

pub returns : goal.returns
returns c = λ ok. explained _ c.args.past.now c.args.target c.negate-denied.result _ c.negate-denied.ensures.subject c.negate-denied.ensures.negated (c.show.ensures ok)
