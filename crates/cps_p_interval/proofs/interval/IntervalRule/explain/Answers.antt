-- The atoms that hold give the target.
use Rattle.cps_p_interval.proofs.Opposing.{supported}
use Rattle.cps_p_interval.proofs.interval.IntervalRule.explain.Goals as goal

pub returns-in-Some : goal.returns-in-Some
returns-in-Some c e =
    supported c.args.past.now c.args.self.now.places c.args.target c.in-Some.support c.clear.new.self.items c.cite_both.new.facts.items c.clear.ensures.items c.in-Some.ensures (c.cite_both.ensures e)
