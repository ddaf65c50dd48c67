-- The subjects of a span are those of the store.
use Rattle.cps_p_cumulative.proofs.SpanDemands.{start-inside, end-inside}
use Rattle.cps_p_cumulative.proofs.segments.place_of.Goals as goal

pub ends-start-requires : goal.ends-start-requires
ends-start-requires c = start-inside c.args.past.now.first c.args.span.now c.requires.span

pub ends-requires : goal.ends-requires
ends-requires c = end-inside c.args.past.now.first c.args.span.now c.requires.span

pub least_end-requires : goal.least_end-requires
least_end-requires c = c.requires.span
