use Rattle.cps_p_sequence.proofs.Apart.{implied_refuted, ok_yes}
use Rattle.cps_p_sequence.proofs.sides.Sides.refute.Goals as goal

pub returns-then-branch : goal.returns-then-branch
returns-then-branch c e b direct inverse = implied_refuted b c.args.self.now.direct direct c.args.past.now c.refute.new.facts.items (c.in_ok-refute.ensures (ok_yes c.in_ok-refute.field-0 c.if-branch.true))

pub returns : goal.returns
returns c e b direct inverse = implied_refuted b c.args.self.now.inverse inverse c.args.past.now c.refute-2.new.facts.items (c.in_ok-known.ensures e)
