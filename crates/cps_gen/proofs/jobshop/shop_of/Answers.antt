use Rattle.std.specs.Prelude.{sum_by}
use Rattle.std.proofs.Common.{ℕ, ◌+◌, ◌*◌, ◌≤◌, [], arith, refl, sym, ap, subst, ◌∙◌, lit<}
use Rattle.cps_gen.specs.Draws.{draws_of}
use Rattle.cps_gen.specs.Parts.{first}
use Rattle.cps_gen.specs.Jobshop.{duration}
use Rattle.cps_gen.proofs.Drawn.{none_drawn, draw_is, draw_more, one_to}
use Rattle.cps_gen.proofs.Lists.{made_more, sum_more, sum_small}
use Rattle.cps_gen.proofs.jobshop.shop_of.Goals as goal

pub loop-task-init : goal.loop-task-init
loop-task-init c =
    record {
      draws = c.draws_of-draws.ensures ∙ sym (none_drawn (draws_of c.args.seed 2));
      durations = c.new-durations.ensures.items;
      horizon = refl;
    }

pub overflow_add-horizon : goal.overflow_add-horizon
overflow_add-horizon c =
    let g = draws_of c.args.seed 2 in
    let t = c.loop-task._task in
    let small = sum_small (duration g) 20 t (λ k. one_to g k 20 (lit< tt)) in
    let total : c.loop-task.horizon ≤ t * 20 = subst (λ (n : ℕ). n ≤ t * 20) (sym c.loop-task.invariant.horizon) small in
    omega arith

pub loop-task-preserved : goal.loop-task-preserved
loop-task-preserved c =
    let g = draws_of c.args.seed 2 in
    let t = c.loop-task._task in
    let before = c.loop-task.invariant in
    let is = draw_is g _ t 20 c.below-duration.result before.draws c.below-duration.ensures.value in
    record {
      draws = draw_more g _ c.below-duration.new.draws t (t + 1) before.draws c.below-duration.ensures.after refl;
      durations = c.in_ok-push.ensures.items ∙ made_more (duration g) t [] c.loop-task.durations.items _ (ap (λ (n : ℕ). 1 + n) is) before.durations;
      horizon = ap (λ (n : ℕ). n + (1 + c.below-duration.result)) before.horizon ∙ ap (λ (n : ℕ). sum_by (duration g) (first t) + (1 + n)) is
          ∙ sym (sum_more (duration g) t);
    }
