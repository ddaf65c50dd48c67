-- A sum that is defined can be evaluated at values within the domains.
use Rattle.std.proofs.Common.{subst}
use Rattle.cps_model.specs.Validity.{IsValid}
use Rattle.cps_cert.proofs.Trials.{ready_sum, small_values}
use Rattle.cps_cert.proofs.trying.lies_in.Goals as goal

pub expression_value-requires-clause-ready : goal.expression_value-requires-clause-ready
expression_value-requires-clause-ready c =
    ready_sum c.args.trial.now.model.now c.args.trial.now.sums.now c.args.atom.subject c.in-Some.sum.now c.args.values.now (subst IsValid c.model-model.ensures.same c.model-model.ensures.valid) c.requires.definable c.in-Some.ensures c.requires.within

pub expression_value-requires-clause-small : goal.expression_value-requires-clause-small
expression_value-requires-clause-small c =
    small_values c.args.trial.now.model.now c.args.values.now (subst IsValid c.model-model.ensures.same c.model-model.ensures.valid) c.requires.within
