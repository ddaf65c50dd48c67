-- The subjects of one span more, and in the end of all.
use Rattle.std.proofs.Common.{◌≡◌, ◌++◌, ◌∙◌, ap, sym, append_assoc, get_or, take, List, ℕ}
use Rattle.std.proofs.lemmas.List.{take_all}
use Rattle.cps_instance.specs.declared.task.Span.{Span}
use Rattle.cps_instance.specs.Tasks.{subjects_of_span, span_subjects}
use Rattle.cps_p_cumulative.proofs.SpanDemands.{subjects-more}
use Rattle.cps_p_cumulative.proofs.resource.push_spans_subjects.Goals as goal

join : (old now new a b c d : List ℕ) → now ≡ old ++ a → new ≡ now ++ b → b ≡ c → d ≡ a ++ c → new ≡ old ++ d
join old now new a b c d e f g h = f ∙ ap (λ is. is ++ b) e ∙ append_assoc old a b ∙ ap (λ is. old ++ (a ++ is)) g ∙ ap (λ is. old ++ is) (sym h)

pub loop-span-preserved : goal.loop-span-preserved
loop-span-preserved c =
    let ps = c.args.spans.now in
    let k = c.loop-span.span-index in
    let p = c.span-item.result in
    join c.args.subjects.now.items c.loop-span.subjects.items c.push_span_subjects.new.subjects.items (span_subjects (take k ps)) (subjects_of_span p) (subjects_of_span (get_or ps k p)) _ c.loop-span.invariant c.in_ok-push_span_subjects.ensures (ap subjects_of_span c.span-item.is) (subjects-more ps k p c.loop-span-test.true)

pub returns : goal.returns
returns c = c.loop-span.invariant ∙ ap (λ (ps : List Span). c.args.subjects.now.items ++ span_subjects ps) (take_all c.loop-span.span-index c.args.spans.now c.loop-span-test.false)
