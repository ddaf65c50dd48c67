-- What all sums pass, those of the times pass, and those of the changes.
use Rattle.std.specs.List.{list_all}
use Rattle.std.proofs.Common.{◌≡◌, ◌∙◌, ◌++◌, sym, true, ℤ, List}
use Rattle.std.proofs.lemmas.List.Folds.{list_all-append}
use Rattle.cps_model.specs.declared.model.LinearExpr.{LinearExpr}
use Rattle.cps_model.specs.Ready.{is_ready}
use Rattle.cps_model.proofs.Tests.{and_true}
use Rattle.cps_eval.proofs.reservoirs.events.Goals as goal

each : (a : List ℤ) (ts cs : List LinearExpr) → list_all (is_ready a) (ts ++ cs) ≡ true → (list_all (is_ready a) ts ≡ true) × (list_all (is_ready a) cs ≡ true)
each a ts cs h = and_true (list_all (is_ready a) ts) (list_all (is_ready a) cs) (sym (list_all-append (is_ready a) ts cs) ∙ h)

pub all_events-requires-clause-times : goal.all_events-requires-clause-times
all_events-requires-clause-times c = (each c.args.values.now c.args.times.now c.args.changes.now c.requires.sums).0

pub all_events-requires-clause-changes : goal.all_events-requires-clause-changes
all_events-requires-clause-changes c = (each c.args.values.now c.args.times.now c.args.changes.now c.requires.sums).1

pub active_events-requires-clause-times : goal.active_events-requires-clause-times
active_events-requires-clause-times c = (each c.args.values.now c.args.times.now c.args.changes.now c.requires.sums).0

pub active_events-requires-clause-changes : goal.active_events-requires-clause-changes
active_events-requires-clause-changes c = (each c.args.values.now c.args.times.now c.args.changes.now c.requires.sums).1
