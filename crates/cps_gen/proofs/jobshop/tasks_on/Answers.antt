use Rattle.std.proofs.Common.{ℤ, pos, [], Vec, Global, arith, ap, ◌∙◌}
use Rattle.std.specs.Prelude.{◌==◌}
use Rattle.std.proofs.lemmas.Bool.{ne_eqb, eq-eqb}
use Rattle.std.proofs.lemmas.Int.{ints}
use Rattle.cps_gen.specs.Jobshop.{machine}
use Rattle.cps_gen.proofs.Lists.{kept_more, kept_same}
use Rattle.cps_gen.proofs.jobshop.tasks_on.Goals as goal
use Rattle.cps_gen.proofs.jobshop.tasks_on.Goals.{then-task-size+in_ok-push, else-task-size}

pub loop-task-preserved : goal.loop-task-preserved
loop-task-preserved c =
    elim c.if-task-size.branch [
      | then-task-size+in_ok-push w ↦
          ap (λ (v : Vec ℤ Global). v.items) w.refs-is ∙ w.in_ok-push.ensures.items
          ∙ kept_more (λ t. machine c.args.size t == c.args.machine) pos c.loop-task.task [] c.loop-task.refs.items _
          (eq-eqb _ _ w.if-task-size.true) (omega (arith, ints)) c.loop-task.invariant
      | else-task-size w ↦
          ap (λ (v : Vec ℤ Global). v.items) w.refs-is
          ∙ kept_same (λ t. machine c.args.size t == c.args.machine) pos c.loop-task.task [] c.loop-task.refs.items
          (ne_eqb _ _ w.if-task-size.false) c.loop-task.invariant
    ]
