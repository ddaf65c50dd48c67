use Rattle.std.proofs.Common.{List, arith, sym, subst}
use Rattle.std.proofs.lemmas.Grind.{common_steps}
use Rattle.std.specs.List.{All}
use Rattle.std.proofs.lemmas.List.Elements.{All-push}
use Rattle.cps_instance.specs.declared.task.Span.{Span}
use Rattle.cps_instance.specs.Fitting.{IsFittingSpan}
use Rattle.cps_rule_tests.proofs.spans.spans.Goals as goal

pub loop-shape-preserved : goal.loop-shape-preserved
loop-shape-preserved c = record {
  fit = subst (λ (ss : List Span). All (IsFittingSpan c.args.store.now.first) ss) (sym c.in_ok-push.ensures.items)
      (All-push (IsFittingSpan c.args.store.now.first) c.loop-shape.spans.items c.in_ok-next.next c.loop-shape.invariant.fit c.in_ok-next.ensures);
  count = grind (arith, common_steps, c.loop-shape.invariant.count, c.in_ok-push.ensures.items);
}
