use Rattle.cps_p_sequence.proofs.Apart.{implied_explained, ok_yes}
use Rattle.cps_p_sequence.proofs.sides.Sides.explain.Goals as goal

pub returns-then-branch : goal.returns-then-branch
returns-then-branch c e b direct inverse = implied_explained b c.args.self.now.direct direct c.args.past.now c.args.target c.explain.new.facts.items (c.in_ok-explain.ensures (ok_yes c.in_ok-explain.field-0 c.if-branch.true))

pub returns : goal.returns
returns c e b direct inverse = implied_explained b c.args.self.now.inverse inverse c.args.past.now c.args.target c.explain-2.new.facts.items (c.in_ok-known.ensures e)
