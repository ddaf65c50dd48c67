-- The capacity comes first, then the subjects of the spans, and then the demands.
use Rattle.std.proofs.Common.{◌∙◌, ◌++◌, List, ℕ, ap}
use Rattle.cps_instance.specs.declared.task.Span.{Span}
use Rattle.cps_instance.specs.Tasks.{span_subjects}
use Rattle.cps_p_cumulative.proofs.SpanDemands.{spread}
use Rattle.cps_p_cumulative.proofs.cumulative.CumulativeRule.push_subjects.Goals as goal

pub returns : goal.returns
returns c =
    let r = c.args.self.now.resource in
    spread c.args.subjects.now.items c.push.new.self.items c.push_spans_subjects.new.subjects.items c.extend_from_slice.new.self.items r.capacity (span_subjects r.spans) r.demands
    c.in_ok-push.ensures.items
    (c.in_ok-push_spans_subjects.ensures ∙ ap (λ (ps : List Span). c.push.new.self.items ++ span_subjects ps) c.as_slice.ensures)
    (c.in_ok-extend_from_slice.ensures.items ∙ ap (λ (is : List ℕ). c.push_spans_subjects.new.subjects.items ++ is) c.as_slice-2.ensures)
