use Rattle.std.proofs.Common.{List, sym, subst}
use Rattle.cps_instance.specs.declared.task.Span.{Span}
use Rattle.cps_p_span.specs.Spans.{AreSpans}
use Rattle.cps_p_span.proofs.Resting.{are_spans}
use Rattle.cps_p_nooverlap.proofs.no_overlap.NoOverlapRule.explain.Goals as goal
use Rattle.cps_p_nooverlap.proofs.Claims.{spans_explained}

pub explain_both-requires : goal.explain_both-requires
explain_both-requires c = subst (λ (ps : List Span). AreSpans c.args.past.now.first ps) (sym c.as_slice.ensures) (are_spans c.args.past.now.first c.args.self.now.spans c.requires.fits)

pub returns : goal.returns
returns c e = spans_explained c.args.past.now c.args.self.now.spans c.as_slice.result.now c.as_slice.ensures c.args.target c.explain_both.new.facts.items (c.explain_both.ensures e)
