-- A node that was found to lead back does so for each atom that implies its own.
use Rattle.cps_conflict.proofs.Minimising.{led_back}
use Rattle.cps_conflict.proofs.minimiser.Minimiser.led_to.Goals as goal

pub returns : goal.returns
returns c = λ earlier a. led_back earlier a c.args.self.now c.in_ok-node.node c.args.fallen.atom c.in_ok-node.ensures c.if-node.false c.if-node-2.false (c.implies.ensures.0 c.if-not-implies.false)
