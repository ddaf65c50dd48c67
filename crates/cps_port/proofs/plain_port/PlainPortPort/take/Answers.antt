-- A look is one event, and keeps the model and the rows.
use Rattle.cps_port.proofs.PortEvents.{took, found_closed}
use Rattle.cps_port.proofs.ActorEvents.{acts, stays_same}
use Rattle.cps_port.specs.declared.event.Event.TheVariants.{Look}
use Rattle.cps_port.proofs.plain_port.PlainPortPort.take.Goals as goal

pub returns-in-Some-clause-said : goal.returns-in-Some-clause-said
returns-in-Some-clause-said c =
    took c.args.self.now.core.now c.look.new.self c.args.self.now.actor c.in-Some.ensures.sound.0 c.args.self.now.known c.in-Some.entry c.in-Some.ensures.state c.in-Some.ensures.entry (c.has_more.ensures.more.0 c.if-not-has_more.false)

pub returns-in-None-clause-said : goal.returns-in-None-clause-said
returns-in-None-clause-said c =
    found_closed c.args.self.now.core.now c.look.new.self c.args.self.now.actor c.in-None.ensures.sound.0 c.args.self.now.known c.in-None.ensures.state c.in-None.ensures.entry (c.has_more.ensures.more.0 c.if-not-has_more.false)

pub returns-in-Some-clause-others : goal.returns-in-Some-clause-others
returns-in-Some-clause-others c = acts c.args.self.now.core.now c.look.new.self c.args.self.now.actor Look c.args.self.now.known (c.has_more.ensures.more.0 c.if-not-has_more.false) c.in-Some.ensures.state

pub returns-in-None-clause-others : goal.returns-in-None-clause-others
returns-in-None-clause-others c = acts c.args.self.now.core.now c.look.new.self c.args.self.now.actor Look c.args.self.now.known (c.has_more.ensures.more.0 c.if-not-has_more.false) c.in-None.ensures.state

pub returns-in-Some-clause-same : goal.returns-in-Some-clause-same
returns-in-Some-clause-same c = stays_same c.args.self.now.core.now c.look.new.self c.args.self.now.actor Look c.in-Some.ensures.state

pub returns-in-None-clause-same : goal.returns-in-None-clause-same
returns-in-None-clause-same c = stays_same c.args.self.now.core.now c.look.new.self c.args.self.now.actor Look c.in-None.ensures.state
