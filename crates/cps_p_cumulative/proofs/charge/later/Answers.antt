use Rattle.std.proofs.Common.{rules}
use Rattle.std.proofs.lemmas.Int.{ints}
use Rattle.cps_p_cumulative.proofs.Relied.{later-some-of, later-none-of}
use Rattle.cps_p_cumulative.proofs.charge.later.Goals as goal

pub returns-in-Some : goal.returns-in-Some
returns-in-Some c = later-some-of c.args.time c.in-Some.length c.args.span.now c.bound.result _ c.in-Some.is c.bound.ensures (search (rules, ints))

pub returns-in-None : goal.returns-in-None
returns-in-None c = later-none-of c.args.time c.args.span.now c.bound-in-None.result _ c.in-None.is c.bound-in-None.ensures (search (rules, ints))
