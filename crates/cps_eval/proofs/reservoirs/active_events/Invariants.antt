-- The events so far that are active, and those that are left, are all.
use Rattle.std.specs.Prelude.{IsTrue}
use Rattle.std.proofs.Common.{◌≡◌, ◌++◌, drop}
use Rattle.cps_model.specs.Reservoirs.{active_events}
use Rattle.cps_eval.specs.Levels.{have_small_changes}
use Rattle.cps_eval.proofs.reservoirs.active_events.Given as goal

abbrev pub invariant-loop-k : goal.invariant-loop-k
invariant-loop-k l = record {
  whole : l.found.items ++ active_events l.values (drop l.k l.times) (drop l.k l.changes) (drop l.k l.active) ≡ active_events l.values l.times l.changes l.active;
  small : IsTrue (have_small_changes l.found.items);
}
