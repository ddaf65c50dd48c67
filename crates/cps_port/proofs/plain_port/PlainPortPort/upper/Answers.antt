use Rattle.cps_port.proofs.PortEvents.{upper_part}
use Rattle.cps_port.proofs.ActorEvents.{acts}
use Rattle.cps_port.specs.declared.event.Event.TheVariants.{SeeUpper}
use Rattle.cps_port.proofs.plain_port.PlainPortPort.upper.Goals as goal

pub returns-clause-bounds : goal.returns-clause-bounds
returns-clause-bounds c = let k = upper_part c.args.self.now.core.now c.see_upper.new.self c.args.self.now.actor c.see_upper.ensures.sound.0 c.args.self.now.known c.see_upper.result c.see_upper.ensures.state c.see_upper.ensures.bound in k.0

pub returns-clause-loads : goal.returns-clause-loads
returns-clause-loads c = let k = upper_part c.args.self.now.core.now c.see_upper.new.self c.args.self.now.actor c.see_upper.ensures.sound.0 c.args.self.now.known c.see_upper.result c.see_upper.ensures.state c.see_upper.ensures.bound in k.1

pub returns-clause-others : goal.returns-clause-others
returns-clause-others c = acts c.args.self.now.core.now c.see_upper.new.self c.args.self.now.actor SeeUpper c.args.self.now.known tt c.see_upper.ensures.state
