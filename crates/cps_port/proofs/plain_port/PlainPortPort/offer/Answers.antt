use Rattle.std.proofs.Common.{◌∙◌, ℤ, ap}
use mir.Facts.{to_z-of_z}
use Rattle.cps_model.specs.declared.bound.Bound.TheVariants.{At}
use Rattle.cps_port.specs.declared.event.Event.TheVariants.{Offer}
use Rattle.cps_port.specs.Order.{lesser}
use Rattle.cps_port.specs.Shared.{after}
use Rattle.cps_port.proofs.PortEvents.{offer_part}
use Rattle.cps_port.proofs.ActorEvents.{acts}
use Rattle.cps_port.proofs.plain_port.PlainPortPort.offer.Goals as goal

pub returns-clause-bounds : goal.returns-clause-bounds
returns-clause-bounds c =
    let core = c.args.self.now.core.now in
    let i = c.args.self.now.actor in
    let same = to_z-of_z c.ranges.value in
    offer_part core c.offer.new.self i c.offer.ensures.sound.0 c.args.self.now.known c.args.value c.offer.result (c.offer.ensures.state ∙ ap (λ (v : ℤ). after core i (Offer v)) same) (c.offer.ensures.bound ∙ ap (λ (v : ℤ). lesser core.bounds.upper (At v)) same)

pub returns-clause-others : goal.returns-clause-others
returns-clause-others c = acts c.args.self.now.core.now c.offer.new.self c.args.self.now.actor (Offer c.args.value) c.args.self.now.known c.requires (c.offer.ensures.state ∙ ap (λ (v : ℤ). after c.args.self.now.core.now c.args.self.now.actor (Offer v)) (to_z-of_z c.ranges.value))
