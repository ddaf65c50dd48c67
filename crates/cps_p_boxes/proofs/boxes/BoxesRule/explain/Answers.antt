use Rattle.std.proofs.Common.{List, sym, subst}
use Rattle.cps_instance.specs.declared.task.Span.{Span}
use Rattle.cps_p_span.specs.Spans.{AreSpans}
use Rattle.cps_p_boxes.proofs.Boxing.{are_along, are_across}
use Rattle.cps_p_boxes.proofs.Box_facts.{boxes_explained}
use Rattle.cps_p_boxes.proofs.boxes.BoxesRule.explain.Goals as goal

pub explain_boxes-requires-clause-x : goal.explain_boxes-requires-clause-x
explain_boxes-requires-clause-x c = subst (λ (ps : List Span). AreSpans c.args.past.now.first ps) (sym c.as_slice-x.ensures) (are_along c.args.past.now.first c.args.self.now.x.spans c.args.self.now.y.spans c.requires.fits)

pub explain_boxes-requires-clause-y : goal.explain_boxes-requires-clause-y
explain_boxes-requires-clause-y c = subst (λ (ps : List Span). AreSpans c.args.past.now.first ps) (sym c.as_slice-y.ensures) (are_across c.args.past.now.first c.args.self.now.x.spans c.args.self.now.y.spans c.requires.fits)

pub returns-in-Some : goal.returns-in-Some
returns-in-Some c e = boxes_explained c.args.past.now c.args.self.now.x.spans c.args.self.now.y.spans c.as_slice-x.result.now c.as_slice-y.result.now c.as_slice-x.ensures c.as_slice-y.ensures c.args.target c.explain_boxes.new.facts.items (c.explain_boxes.ensures e)
