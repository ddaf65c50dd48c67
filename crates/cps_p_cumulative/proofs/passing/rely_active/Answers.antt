use Rattle.cps_p_cumulative.proofs.Levelled.{active-relied, active-free}
use Rattle.cps_p_cumulative.proofs.passing.rely_active.Goals as goal

pub returns-in-Some : goal.returns-in-Some
returns-in-Some c = λ ok. active-relied c.args.past.now c.args.case.assumed c.in-Some.atom c.args.active c.args.facts.now.items c.rely.new.facts.items c.in-Some.is (c.rely.ensures ok)

pub returns-in-None : goal.returns-in-None
returns-in-None c = λ ok. active-free c.args.past.now c.args.case.assumed c.args.active c.args.facts.now.items c.in-None.is c.requires.facts
