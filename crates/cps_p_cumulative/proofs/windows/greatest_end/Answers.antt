use Rattle.cps_p_cumulative.proofs.SpanDemands.{start-inside, end-inside}
use Rattle.cps_p_cumulative.proofs.windows.greatest_end.Goals as goal

pub ends-requires : goal.ends-requires
ends-requires c = start-inside c.args.past.now.first c.args.span.now c.requires

pub ends-requires-in-None : goal.ends-requires-in-None
ends-requires-in-None c = end-inside c.args.past.now.first c.args.span.now c.requires
