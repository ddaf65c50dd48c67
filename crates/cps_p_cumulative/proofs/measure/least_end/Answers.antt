-- A span of a length ends no earlier than from its least start on, any other at its least end.
use Rattle.std.proofs.Common.{rules}
use Rattle.cps_p_cumulative.proofs.SpanDemands.{start-inside, end-inside}
use Rattle.cps_p_cumulative.proofs.Energy.{wide_is, wide_sum, wide_sum_fits}
use Rattle.cps_p_cumulative.proofs.Profiled.{ends-some, ends-none, some-ends, none-ends}
use Rattle.cps_p_cumulative.proofs.measure.least_end.Goals as goal

pub ends-requires : goal.ends-requires
ends-requires c = start-inside c.args.past.now.first c.args.span.now c.requires

pub ends-requires-in-None : goal.ends-requires-in-None
ends-requires-in-None c = end-inside c.args.past.now.first c.args.span.now c.requires

pub overflow_add-result : goal.overflow_add-result
overflow_add-result c = wide_sum_fits c.ends.result.0 c.in-Some.length c.from.result c.from-in-Some.result (search rules) (search rules) c.from.ensures c.from-in-Some.ensures

pub returns-in-Some-clause-runs : goal.returns-in-Some-clause-runs
returns-in-Some-clause-runs c = λ t l. ends-some c.args.past.now t c.args.span.now.start c.args.span.now.end c.args.span.now.length c.in-Some.length c.ends.result.0 _ c.in-Some.is c.ends.ensures.least l (wide_sum c.ends.result.0 c.in-Some.length c.from.result c.from-in-Some.result (search rules) (search rules) c.from.ensures c.from-in-Some.ensures)

pub returns-in-Some-clause-ends : goal.returns-in-Some-clause-ends
returns-in-Some-clause-ends c = λ t h. some-ends c.args.past.now t c.args.span.now.start c.args.span.now.end c.args.span.now.length c.in-Some.length c.ends.result.0 _ c.in-Some.is c.ends.ensures.low (wide_sum c.ends.result.0 c.in-Some.length c.from.result c.from-in-Some.result (search rules) (search rules) c.from.ensures c.from-in-Some.ensures) h

pub returns-in-None-clause-runs : goal.returns-in-None-clause-runs
returns-in-None-clause-runs c = λ t l. ends-none c.args.past.now t c.args.span.now.start c.args.span.now.end c.args.span.now.length c.ends-in-None.result.0 _ c.in-None.is c.ends-in-None.ensures.least l (wide_is c.ends-in-None.result.0 c.from-in-None.result (search rules) c.from-in-None.ensures)

pub returns-in-None-clause-ends : goal.returns-in-None-clause-ends
returns-in-None-clause-ends c = λ t h. none-ends c.args.past.now t c.args.span.now.start c.args.span.now.end c.args.span.now.length c.ends-in-None.result.0 _ c.in-None.is c.ends-in-None.ensures.low (wide_is c.ends-in-None.result.0 c.from-in-None.result (search rules) c.from-in-None.ensures) h
