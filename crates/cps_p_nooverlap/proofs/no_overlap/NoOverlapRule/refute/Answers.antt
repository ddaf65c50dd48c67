use Rattle.std.proofs.Common.{List, sym, subst}
use Rattle.cps_instance.specs.declared.task.Span.{Span}
use Rattle.cps_p_span.specs.Spans.{AreSpans}
use Rattle.cps_p_span.proofs.Resting.{are_spans}
use Rattle.cps_p_nooverlap.proofs.no_overlap.NoOverlapRule.refute.Goals as goal
use Rattle.cps_p_nooverlap.proofs.Claims.{spans_refuted}

pub refute_both-requires : goal.refute_both-requires
refute_both-requires c = subst (λ (ps : List Span). AreSpans c.args.past.now.first ps) (sym c.as_slice.ensures) (are_spans c.args.past.now.first c.args.self.now.spans c.requires.fits)

pub returns : goal.returns
returns c e = spans_refuted c.args.past.now c.args.self.now.spans c.as_slice.result.now c.as_slice.ensures c.refute_both.new.facts.items (c.refute_both.ensures e)
