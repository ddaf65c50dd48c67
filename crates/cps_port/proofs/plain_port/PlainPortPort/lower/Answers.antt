use Rattle.cps_port.proofs.PortEvents.{lower_part}
use Rattle.cps_port.proofs.ActorEvents.{acts}
use Rattle.cps_port.specs.declared.event.Event.TheVariants.{SeeLower}
use Rattle.cps_port.proofs.plain_port.PlainPortPort.lower.Goals as goal

pub returns-clause-bounds : goal.returns-clause-bounds
returns-clause-bounds c = let k = lower_part c.args.self.now.core.now c.see_lower.new.self c.args.self.now.actor c.see_lower.ensures.sound.0 c.args.self.now.known c.see_lower.result c.see_lower.ensures.state c.see_lower.ensures.bound in k.0

pub returns-clause-loads : goal.returns-clause-loads
returns-clause-loads c = let k = lower_part c.args.self.now.core.now c.see_lower.new.self c.args.self.now.actor c.see_lower.ensures.sound.0 c.args.self.now.known c.see_lower.result c.see_lower.ensures.state c.see_lower.ensures.bound in k.1

pub returns-clause-others : goal.returns-clause-others
returns-clause-others c = acts c.args.self.now.core.now c.see_lower.new.self c.args.self.now.actor SeeLower c.args.self.now.known tt c.see_lower.ensures.state
