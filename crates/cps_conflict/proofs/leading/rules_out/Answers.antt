use Rattle.cps_conflict.proofs.Walking.{rules_out_of, implies_of}
use Rattle.cps_conflict.proofs.leading.rules_out.Goals as goal

pub returns : goal.returns
returns c = (
  λ yes. rules_out_of c.args.one c.args.other c.negate.result c.negate.ensures.subject c.negate.ensures.negated (c.implies.ensures.0 yes),
  λ out. c.implies.ensures.1 (implies_of c.args.one c.args.other c.negate.result c.negate.ensures.subject c.negate.ensures.negated out),
)
