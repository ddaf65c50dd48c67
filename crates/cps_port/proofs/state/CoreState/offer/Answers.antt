use Rattle.std.proofs.Common.{ℤ, ap, ◌∙◌}
use mir.Facts.{to_z-of_z}
use Rattle.cps_model.specs.declared.bound.Bound.TheVariants.{At}
use Rattle.cps_port.specs.Order.{lesser}
use Rattle.cps_port.proofs.StoredStates.{offers}
use Rattle.cps_port.proofs.state.CoreState.offer.Goals as goal

pub invariant_of-self : goal.invariant_of-self
invariant_of-self c = let s = c.self.inside in let k = offers s.model.now s.rows.items s.next s.seats.items s.upper s.lower s.bounds.items c.args.self.now c.self.view_is c.self.invariant c.args.actor c.requires.actor c.index-part.result.now c.index-part.ensures c.args.value c.lesser-self-inside.result c.lesser-part.result c.requires.lawful (c.lesser-self-inside.ensures ∙ ap (λ (z : ℤ). lesser s.upper (At z)) (to_z-of_z c.ranges.value)) (c.lesser-part.ensures ∙ ap (λ (z : ℤ). lesser c.index-part.result.now.offered (At z)) (to_z-of_z c.ranges.value)) in k.whole

pub returns-clause-sound : goal.returns-clause-sound
returns-clause-sound c = let s = c.self.inside in let k = offers s.model.now s.rows.items s.next s.seats.items s.upper s.lower s.bounds.items c.args.self.now c.self.view_is c.self.invariant c.args.actor c.requires.actor c.index-part.result.now c.index-part.ensures c.args.value c.lesser-self-inside.result c.lesser-part.result c.requires.lawful (c.lesser-self-inside.ensures ∙ ap (λ (z : ℤ). lesser s.upper (At z)) (to_z-of_z c.ranges.value)) (c.lesser-part.ensures ∙ ap (λ (z : ℤ). lesser c.index-part.result.now.offered (At z)) (to_z-of_z c.ranges.value)) in k.sound
