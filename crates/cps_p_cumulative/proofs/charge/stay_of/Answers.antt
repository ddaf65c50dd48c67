use Rattle.cps_p_cumulative.proofs.SpanDemands.{start-inside, end-inside}
use Rattle.cps_p_cumulative.proofs.charge.stay_of.Goals as goal

pub greatest-requires : goal.greatest-requires
greatest-requires c = start-inside c.args.past.now.first c.args.span.now c.requires

pub least-requires : goal.least-requires
least-requires c = start-inside c.args.past.now.first c.args.span.now c.requires

pub least-requires-in-None : goal.least-requires-in-None
least-requires-in-None c = end-inside c.args.past.now.first c.args.span.now c.requires
