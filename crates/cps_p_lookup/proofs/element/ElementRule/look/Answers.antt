use Rattle.std.proofs.Common.{subst, refl}
use Rattle.cps_instance.specs.declared.task.Body.{Body}
use Rattle.cps_rule.specs.Rules.{IsAtRest}
use Rattle.cps_p_lookup.proofs.Placing.{fit_seen, body_seen}
use Rattle.cps_p_lookup.proofs.element.ElementRule.look.Goals as goal

pub look_up-requires : goal.look_up-requires
look_up-requires c =
    let r = c.args.self.now in
    record { fits = fit_seen c.args.store.now.first r.index r.target r.exprs r.index r.target c.as_slice.result.now c.requires.fits refl refl c.as_slice.ensures }

pub returns-clause-rest : goal.returns-clause-rest
returns-clause-rest c = λ e trues.
    let r = c.args.self.now in
    subst (λ (b : Body). IsAtRest b c.args.store.now) (body_seen r.index r.target r.exprs r.index r.target c.as_slice.result.now refl refl c.as_slice.ensures) (c.look_up.ensures.rest e trues)
