-- The copies so far are the first spans, and in the end all.
use Rattle.std.proofs.Common.{◌∙◌}
use Rattle.std.proofs.lemmas.List.{take_all}
use Rattle.cps_p_cumulative.proofs.SpanDemands.{copied-more}
use Rattle.cps_p_cumulative.proofs.resource.copy_of_spans.Goals as goal

pub loop-span-preserved : goal.loop-span-preserved
loop-span-preserved c = copied-more c.args.spans.now c.loop-span.span-index c.span-item.result c.in_ok-copy_of_span.field-0 c.loop-span.list.items c.push.new.self.items c.loop-span-test.true c.loop-span.invariant c.in_ok-push.ensures.items c.in_ok-copy_of_span.ensures c.span-item.is

pub returns : goal.returns
returns c = c.from_vec.ensures ∙ c.loop-span.invariant ∙ take_all c.loop-span.span-index c.args.spans.now c.loop-span-test.false
