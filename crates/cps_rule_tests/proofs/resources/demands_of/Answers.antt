use Rattle.std.proofs.Common.{ℕ, List, sym, subst}
use Rattle.std.specs.List.{All}
use Rattle.std.proofs.lemmas.List.Elements.{All-push}
use Rattle.cps_instance.specs.Fitting.{IsNeverNegative}
use Rattle.cps_rule_tests.proofs.resources.demands_of.Goals as goal

pub loop-demand-preserved : goal.loop-demand-preserved
loop-demand-preserved c = subst (λ (is : List ℕ). All (IsNeverNegative c.args.store.now.first) is) (sym c.in_ok-push.ensures.items)
    (All-push (IsNeverNegative c.args.store.now.first) c.loop-demand.subjects.items c.in_ok-subject.subject c.loop-demand.invariant c.in_ok-subject.ensures)
