-- The items below the index are drawn, two words for each.
use Rattle.std.proofs.Common.{◌≡◌, ◌*◌}
use Rattle.cps_gen.specs.Draws.{draws_of, after_words}
use Rattle.cps_gen.specs.Knapsack.{weights, losses, total_weight}
use Rattle.cps_gen.proofs.knapsack.draw_items.Given as goal

abbrev pub invariant-loop-item : goal.invariant-loop-item
invariant-loop-item l = record {
  draws : l.draws ≡ after_words (draws_of l.seed 1) (2 * l._item);
  weights : l.weights.items ≡ weights (draws_of l.seed 1) l._item;
  losses : l.losses.items ≡ losses (draws_of l.seed 1) l._item;
  total : l.total ≡ total_weight (draws_of l.seed 1) l._item;
}
