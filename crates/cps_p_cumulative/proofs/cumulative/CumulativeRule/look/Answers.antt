use Rattle.std.specs.Prelude.{All}
use Rattle.std.proofs.Common.{subst, sym}
use Rattle.cps_instance.specs.Fitting.{IsNeverNegative}
use Rattle.cps_trail.specs.Trail.{Trail}
use Rattle.cps_propagate.specs.Strength.{HasCapacity}
use Rattle.cps_rule.specs.Rules.{IsFittingRule}
use Rattle.cps_p_cumulative.specs.Running.{body_of}
use Rattle.cps_p_cumulative.proofs.SpanDemands.{resource-inside}
use Rattle.cps_p_cumulative.proofs.RestLaw.{at_rest}
use Rattle.cps_p_cumulative.proofs.cumulative.CumulativeRule.look.Goals as goal

pub look_at-requires-clause-inside : goal.look_at-requires-clause-inside
look_at-requires-clause-inside c = resource-inside c.present.result.first c.args.self.now.resource (subst (λ (s : Trail). IsFittingRule s.first (body_of c.args.self.now.resource)) (sym c.present.ensures) c.requires.fits)

pub look_at-requires-clause-demands : goal.look_at-requires-clause-demands
look_at-requires-clause-demands c = subst (λ (s : Trail). All (IsNeverNegative s.first) c.args.self.now.resource.demands) (sym c.present.ensures) c.requires.fits.body.demands_fit

pub returns-clause-rest : goal.returns-clause-rest
returns-clause-rest c = λ ok all.
    let r = c.args.self.now.resource in
    at_rest c.args.store.now r (subst (λ (s : Trail). HasCapacity s r.capacity r.spans r.demands) c.present.ensures (c.look_at.ensures.possible ok))
