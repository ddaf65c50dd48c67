-- The arcs of the pairs below the index are listed, and a word is drawn for each.
use Rattle.std.proofs.Common.{◌≡◌, ◌/◌, ◌%◌, pos, map, length}
use Rattle.std.specs.Prelude.{filter}
use Rattle.cps_gen.specs.Draws.{draws_of, after_words}
use Rattle.cps_gen.specs.Parts.{first}
use Rattle.cps_gen.specs.Tour.{is_arc, costs}
use Rattle.cps_gen.proofs.tour.arcs_of.Given as goal

abbrev pub invariant-loop-pair : goal.invariant-loop-pair
invariant-loop-pair l = record {
  draws : l.draws ≡ after_words (draws_of l.seed 3) (length (filter (is_arc l.size) (first l.pair)));
  tails : l.tails.items ≡ map (λ p. pos (p / l.size)) (filter (is_arc l.size) (first l.pair));
  heads : l.heads.items ≡ map (λ p. pos (p % l.size)) (filter (is_arc l.size) (first l.pair));
  costs : l.costs.items ≡ costs (draws_of l.seed 3) (length (filter (is_arc l.size) (first l.pair)));
}
