use Rattle.cps_port.proofs.PortEvents.{raise_part, may_raise}
use Rattle.cps_port.proofs.ActorEvents.{acts}
use Rattle.cps_port.specs.declared.event.Event.TheVariants.{Raise}
use Rattle.cps_port.proofs.plain_port.PlainPortPort.raise.Goals as goal

pub raise-requires-clause-lawful : goal.raise-requires-clause-lawful
raise-requires-clause-lawful c = may_raise _ _ c.args.value c.requires.bound

pub returns-clause-bounds : goal.returns-clause-bounds
returns-clause-bounds c = raise_part c.args.self.now.core.now c.raise.new.self c.args.self.now.actor c.raise.ensures.sound.0 c.args.self.now.known c.args.value c.raise.result c.raise.ensures.state c.raise.ensures.bound

pub returns-clause-others : goal.returns-clause-others
returns-clause-others c = acts c.args.self.now.core.now c.raise.new.self c.args.self.now.actor (Raise c.args.value) c.args.self.now.known (may_raise _ _ c.args.value c.requires.bound) c.raise.ensures.state
