use Rattle.std.proofs.Common.{Ok, ap}
use Rattle.cps_p_lookup.proofs.Growing.{adds_both}
use Rattle.cps_p_lookup.proofs.facts.push_both.Goals as goal

pub returns-then-branch : goal.returns-then-branch
returns-then-branch c = λ e. adds_both c.args.past.now c.args.first c.args.second c.args.facts.now.items c.push_fact.new.facts.items c.push_fact-then-branch.new.facts.items (c.in_ok-push_fact.ensures.yes (ap Ok c.if-branch.true)) (c.push_fact-then-branch.ensures.yes e)
