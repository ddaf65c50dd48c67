use Rattle.cps_p_span.proofs.Citing.{denied_holds}
use Rattle.cps_p_span.proofs.facts.is_denied.Goals as goal

pub returns : goal.returns
returns c e = λ xs f. denied_holds c.args.atom c.negate.result c.args.target (c.same_atom.ensures e) c.negate.ensures.subject c.negate.ensures.negated xs f
