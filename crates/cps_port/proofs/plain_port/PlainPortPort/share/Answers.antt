-- The row was drawn, and then published.
use Rattle.std.proofs.Common.{◌∙◌, sym}
use Rattle.cps_port.specs.declared.event.Event.TheVariants.{Draw, Publish}
use Rattle.cps_port.proofs.PortEvents.{may_publish}
use Rattle.cps_port.proofs.ActorEvents.{acts, acts_twice, stays_same, stays_same_twice}
use Rattle.cps_port.proofs.plain_port.PlainPortPort.share.Goals as goal

pub publish-requires-clause-lawful : goal.publish-requires-clause-lawful
publish-requires-clause-lawful c = may_publish c.args.self.now.core.now c.draw.new.self c.args.self.now.actor c.in-Some.row c.args.below c.args.clause.now c.of-entry.result c.args.self.now.known c.draw.ensures.state c.in-Some.ensures.row c.of-entry.ensures c.requires.clause c.requires.holds c.requires.incumbent

pub returns-in_default-clause-others : goal.returns-in_default-clause-others
returns-in_default-clause-others c = acts c.args.self.now.core.now c.draw.new.self c.args.self.now.actor Draw c.args.self.now.known (sym c.is_full.ensures ∙ c.if-is_full.false, c.args.self.now.idle) c.draw.ensures.state

pub returns-clause-others : goal.returns-clause-others
returns-clause-others c =
    acts_twice c.args.self.now.core.now c.draw.new.self c.publish.new.self c.args.self.now.actor Draw (Publish c.of-entry.result) c.args.self.now.known (sym c.is_full.ensures ∙ c.if-is_full.false, c.args.self.now.idle) c.draw.ensures.state
    (may_publish c.args.self.now.core.now c.draw.new.self c.args.self.now.actor c.in-Some.row c.args.below c.args.clause.now c.of-entry.result c.args.self.now.known c.draw.ensures.state c.in-Some.ensures.row c.of-entry.ensures c.requires.clause c.requires.holds c.requires.incumbent)
    c.publish.ensures.state

pub returns-in_default-clause-same : goal.returns-in_default-clause-same
returns-in_default-clause-same c = stays_same c.args.self.now.core.now c.draw.new.self c.args.self.now.actor Draw c.draw.ensures.state

pub returns-clause-same : goal.returns-clause-same
returns-clause-same c = stays_same_twice c.args.self.now.core.now c.draw.new.self c.publish.new.self c.args.self.now.actor Draw (Publish c.of-entry.result) c.draw.ensures.state c.publish.ensures.state
