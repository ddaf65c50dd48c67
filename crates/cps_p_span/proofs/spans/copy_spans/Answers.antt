-- Each span that was gone past was copied; all were at the end.
use Rattle.std.proofs.Common.{◌∙◌}
use Rattle.std.proofs.lemmas.List.{take_all}
use Rattle.cps_p_span.proofs.Copying.{copied_more}
use Rattle.cps_p_span.proofs.spans.copy_spans.Goals as goal

pub loop-span-preserved : goal.loop-span-preserved
loop-span-preserved c =
    copied_more c.args.spans.now c.loop-span.copies.items c.push.new.self.items c.loop-span.span-index c.span-item.result _ c.loop-span-test.true c.span-item.is c.in_ok-copy_span.ensures c.in_ok-push.ensures.items c.loop-span.invariant

pub returns : goal.returns
returns c = c.loop-span.invariant ∙ take_all c.loop-span.span-index c.args.spans.now c.loop-span-test.false
