-- The changes so far, and those that are left, are all.
use Rattle.std.specs.Prelude.{IsTrue}
use Rattle.std.proofs.Common.{◌≡◌, ◌++◌, drop}
use Rattle.cps_eval.specs.Levels.{load_changes, have_small_changes}
use Rattle.cps_eval.proofs.cumulative.load_changes.Given as goal

abbrev pub invariant-loop-used : goal.invariant-loop-used
invariant-loop-used l = record {
  whole : l.changes.items ++ load_changes (drop l.used-index l.uses) ≡ load_changes l.uses;
  small : IsTrue (have_small_changes l.changes.items);
}
