use Rattle.std.proofs.Common.{ℕ, ◌+◌, ◌*◌, ◌≤◌, pos, neg_ℤ, [], arith, refl, sym, ap, subst, ◌∙◌, lit<}
use Rattle.std.proofs.lemmas.Int.{ints}
use Rattle.cps_gen.specs.Draws.{draws_of}
use Rattle.cps_gen.specs.Knapsack.{weight, value, total_weight}
use Rattle.cps_gen.proofs.Drawn.{none_drawn, draw_is, draw_more, one_to}
use Rattle.cps_gen.proofs.Lists.{made_more, sum_more, sum_small}
use Rattle.cps_gen.proofs.knapsack.draw_items.Goals as goal

pub loop-item-init : goal.loop-item-init
loop-item-init c =
    record {
      draws = c.draws_of-draws.ensures ∙ sym (none_drawn (draws_of c.args.seed 1));
      weights = c.new-weights.ensures.items;
      losses = c.new-losses.ensures.items;
      total = refl;
    }

pub overflow_add-total : goal.overflow_add-total
overflow_add-total c =
    let g = draws_of c.args.seed 1 in
    let i = c.loop-item._item in
    let small = sum_small (weight g) 100 i (λ k. one_to g (2 * k) 100 (lit< tt)) in
    let total : c.loop-item.total ≤ i * 100 = subst (λ (t : ℕ). t ≤ i * 100) (sym c.loop-item.invariant.total) small in
    omega arith

pub loop-item-preserved : goal.loop-item-preserved
loop-item-preserved c =
    let g = draws_of c.args.seed 1 in
    let i = c.loop-item._item in
    let before = c.loop-item.invariant in
    let drawn_weight = draw_is g _ (2 * i) 100 c.below-weight.result before.draws c.below-weight.ensures.value in
    let between = draw_more g _ c.below-weight.new.draws (2 * i) (2 * i + 1) before.draws c.below-weight.ensures.after refl in
    let drawn_value = draw_is g _ (2 * i + 1) 100 c.below-value.result between c.below-value.ensures.value in
    record {
      draws = draw_more g _ c.below-value.new.draws (2 * i + 1) (2 * (i + 1)) between c.below-value.ensures.after (omega arith);
      weights = c.in_ok-push.ensures.items ∙ made_more (λ k. pos (weight g k)) i [] c.loop-item.weights.items _ (omega (arith, ints, c.from.ensures, drawn_weight)) before.weights;
      losses = c.in_ok-push-2.ensures.items ∙ made_more (λ k. neg_ℤ (pos (value g k))) i [] c.loop-item.losses.items _ (omega (arith, ints, c.from-in-loop-item.ensures, drawn_value)) before.losses;
      total = ap (λ (t : ℕ). t + (1 + c.below-weight.result)) before.total ∙ ap (λ (n : ℕ). total_weight g i + (1 + n)) drawn_weight
          ∙ sym (sum_more (weight g) i);
    }
