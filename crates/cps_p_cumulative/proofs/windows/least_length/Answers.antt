use Rattle.cps_p_cumulative.proofs.SpanDemands.{start-inside}
use Rattle.cps_p_cumulative.proofs.windows.least_length.Goals as goal

pub ends-requires : goal.ends-requires
ends-requires c = start-inside c.args.past.now.first c.args.span.now c.requires
