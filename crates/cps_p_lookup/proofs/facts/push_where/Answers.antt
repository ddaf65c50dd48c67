use Rattle.cps_p_lookup.proofs.Growing.{adds_needed}
use Rattle.cps_p_lookup.proofs.facts.push_where.Goals as goal

pub returns-then-needed : goal.returns-then-needed
returns-then-needed c = λ e. adds_needed c.args.past.now c.args.needed c.args.atom c.args.facts.now.items c.push_fact.new.facts.items (c.push_fact.ensures.yes e)
