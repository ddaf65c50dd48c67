use Rattle.cps_conflict.proofs.Minimising.{led_assert, led_earlier, led_bottom}
use Rattle.cps_conflict.proofs.minimiser.Minimiser.look.Goals as goal

pub returns-then-implies : goal.returns-then-implies
returns-then-implies c = led_assert c.args.store.now c.args.resolvent.now.earlier c.args.self.now.assert c.args.atom (c.implies.ensures.0 c.if-implies.true)

pub returns-in-Some : goal.returns-in-Some
returns-in-Some c = led_earlier c.args.store.now c.args.resolvent.now.earlier c.args.self.now.assert c.args.atom c.in-Some.from c.in-Some.ensures

pub returns-then-is_bottom : goal.returns-then-is_bottom
returns-then-is_bottom c = led_bottom c.args.store.now c.args.resolvent.now c.args.self.now.assert c.args.atom c.falsified-from.result c.requires.draft c.requires.subject c.falsified-from.ensures (c.is_bottom.ensures c.if-is_bottom.true)
