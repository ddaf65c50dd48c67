use Rattle.std.proofs.Common.{◌∙◌}
use Rattle.cps_gen.specs.Parts.{in_force}
use Rattle.cps_gen.specs.Jobshop.{run}
use Rattle.cps_gen.specs.Shops.{draws_in}
use Rattle.cps_gen.proofs.Lists.{made_more}
use Rattle.cps_gen.proofs.jobshop.add_runs.Goals as goal

pub loop-task-preserved : goal.loop-task-preserved
loop-task-preserved c =
    c.in_ok-push.ensures.items
    ∙ made_more (λ t. in_force (run (draws_in c.args.shop.now) t)) c.loop-task.task c.args.constraints.now.items c.loop-task.constraints.items _
    c.in_ok-run.ensures c.loop-task.invariant
