use Rattle.std.proofs.Common.{◌-◌, Vec, Global, ap, ◌∙◌}
use Rattle.cps_model.specs.declared.constraint.Constraint.{Constraint}
use Rattle.std.proofs.lemmas.Bool.{ne_eqb, eq-eqb, not_from_true, not_from_false}
use Rattle.cps_gen.specs.Parts.{in_force}
use Rattle.cps_gen.specs.Jobshop.{no_sooner, is_later}
use Rattle.cps_gen.specs.Shops.{draws_in}
use Rattle.cps_gen.proofs.Lists.{kept_more, kept_same}
use Rattle.cps_gen.proofs.jobshop.add_orders.Goals as goal
use Rattle.cps_gen.proofs.jobshop.add_orders.Goals.{then-task-shop-ne0+in_ok-no_sooner+in_ok-push, else-task-shop-ne0}

pub loop-task-preserved : goal.loop-task-preserved
loop-task-preserved c =
    let shop = c.args.shop.now in
    let n = shop.size in
    let g = draws_in shop in
    elim c.if-task-shop-ne0.branch [
      | then-task-shop-ne0+in_ok-no_sooner+in_ok-push w ↦
          ap (λ (v : Vec Constraint Global). v.items) w.constraints-is ∙ w.in_ok-push.ensures.items
          ∙ kept_more (is_later n) (λ t. in_force (no_sooner g n t (t - 1))) c.loop-task.task c.args.constraints.now.items c.loop-task.constraints.items _
          (not_from_false _ (ne_eqb _ _ w.if-task-shop-ne0.true)) w.in_ok-no_sooner.ensures c.loop-task.invariant
      | else-task-shop-ne0 w ↦
          ap (λ (v : Vec Constraint Global). v.items) w.constraints-is
          ∙ kept_same (is_later n) (λ t. in_force (no_sooner g n t (t - 1))) c.loop-task.task c.args.constraints.now.items c.loop-task.constraints.items
          (not_from_true _ (eq-eqb _ _ w.if-task-shop-ne0.false)) c.loop-task.invariant
    ]
