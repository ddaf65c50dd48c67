-- The durations below the index are drawn, a word for each.
use Rattle.std.proofs.Common.{◌≡◌, map}
use Rattle.std.specs.Prelude.{sum_by}
use Rattle.cps_gen.specs.Draws.{draws_of, after_words}
use Rattle.cps_gen.specs.Parts.{first}
use Rattle.cps_gen.specs.Jobshop.{duration}
use Rattle.cps_gen.proofs.jobshop.shop_of.Given as goal

abbrev pub invariant-loop-task : goal.invariant-loop-task
invariant-loop-task l = record {
  draws : l.draws ≡ after_words (draws_of l.seed 2) l._task;
  durations : l.durations.items ≡ map (duration (draws_of l.seed 2)) (first l._task);
  horizon : l.horizon ≡ sum_by (duration (draws_of l.seed 2)) (first l._task);
}
