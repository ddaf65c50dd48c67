-- The events so far, and those that are left, are all.
use Rattle.std.specs.Prelude.{IsTrue}
use Rattle.std.proofs.Common.{◌≡◌, ◌++◌, drop}
use Rattle.cps_model.specs.Reservoirs.{all_events}
use Rattle.cps_eval.specs.Levels.{have_small_changes}
use Rattle.cps_eval.proofs.reservoirs.all_events.Given as goal

abbrev pub invariant-loop-k : goal.invariant-loop-k
invariant-loop-k l = record {
  whole : l.found.items ++ all_events l.values (drop l.k l.times) (drop l.k l.changes) ≡ all_events l.values l.times l.changes;
  small : IsTrue (have_small_changes l.found.items);
}
