-- The uses so far that are present, and those that are left, are all.
use Rattle.std.specs.Prelude.{IsTrue}
use Rattle.std.proofs.Common.{◌≡◌, ◌++◌, drop}
use Rattle.cps_model.specs.Scheduling.{uses}
use Rattle.cps_eval.specs.Levels.{have_small_demands}
use Rattle.cps_eval.proofs.cumulative.uses.Given as goal

abbrev pub invariant-loop-k : goal.invariant-loop-k
invariant-loop-k l = record {
  whole : l.present.items ++ uses l.constraints l.values (drop l.k l.intervals) (drop l.k l.demands) ≡ uses l.constraints l.values l.intervals l.demands;
  small : IsTrue (have_small_demands l.present.items);
}
