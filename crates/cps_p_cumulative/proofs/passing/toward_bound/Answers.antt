use Rattle.std.proofs.Common.{rules}
use Rattle.std.proofs.lemmas.Int.{ints}
use Rattle.cps_p_cumulative.proofs.Levelled.{toward-over, toward-under}
use Rattle.cps_p_cumulative.proofs.passing.toward_bound.Goals as goal

pub returns-in-Over : goal.returns-in-Over
returns-in-Over c = toward-over c.args.side c.args.change c.args.value _ c.at_least.result c.in-Over.is c.at_least.ensures (search (rules, ints))

pub returns-in-Under : goal.returns-in-Under
returns-in-Under c = toward-under c.args.side c.args.change c.args.value _ c.at_most.result c.in-Under.is c.at_most.ensures (search (rules, ints))
