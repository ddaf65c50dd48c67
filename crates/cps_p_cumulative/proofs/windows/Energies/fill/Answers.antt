-- Each span that is taken down is one of the resource's.
use Rattle.std.proofs.Common.{◌<◌, subst, sym, List, length, get_or, arith}
use Rattle.cps_instance.specs.declared.task.Span.{Span}
use Rattle.cps_p_cumulative.specs.Running.{IsSpanOf}
use Rattle.cps_p_cumulative.proofs.SpanDemands.{span-inside}
use Rattle.cps_p_cumulative.proofs.windows.Energies.fill.Goals as goal

pub take-requires-clause-span : goal.take-requires-clause-span
take-requires-clause-span c =
    let q = c.index-spans-k.result in
    let first = c.args.past.now.first in
    let rs = c.as_slice-spans.result.now in
    let l : c.loop-k.k < length rs = (let a = c.min-count.ensures in let b = c.loop-k-test.true in omega arith) in
    let l' : c.loop-k.k < length c.args.resource.now.spans = subst (λ (ps : List Span). c.loop-k.k < length ps) c.as_slice-spans.ensures l in
    let here : IsSpanOf first (get_or c.args.resource.now.spans c.loop-k.k q) = span-inside first c.args.resource.now.spans c.loop-k.k q l' c.requires.spans in
    subst (λ (p : Span). IsSpanOf first p) (sym c.index-spans-k.is) (subst (λ (ps : List Span). IsSpanOf first (get_or ps c.loop-k.k q)) (sym c.as_slice-spans.ensures) here)
