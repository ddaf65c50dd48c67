use Rattle.std.proofs.Common.{◌∙◌, sym, subst}
use Rattle.cps_instance.specs.Tasks.{HoldsTask}
use Rattle.cps_instance.specs.Terms.{Domains}
use Rattle.cps_instance.specs.Fitting.{IsFitting}
use Rattle.cps_trail.specs.Notes.{ByTask, IsGivenAt}
use Rattle.cps_propagation_tests.proofs.Noting.{none_fit, none_noted}
use Rattle.cps_propagation_tests.proofs.sums.ran.Goals as goal

pub run-requires-clause-fits : goal.run-requires-clause-fits
run-requires-clause-fits c = subst (λ (ds : Domains). IsFitting ds c.args.linear.now.task) (sym (c.in_ok-decide_all.ensures.first ∙ c.in_ok-store.ensures.first)) c.requires

pub run-requires-clause-notes : goal.run-requires-clause-notes
run-requires-clause-notes c = none_fit (IsGivenAt (ByTask 7 (HoldsTask c.args.linear.now.task))) c.decide_all.new.store (c.in_ok-decide_all.ensures.notes (none_noted c.in_ok-store.store c.in_ok-store.ensures.none))
