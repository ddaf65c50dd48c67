use Rattle.std.proofs.Common.{pos, map, ap, ◌∙◌}
use Rattle.cps_model.specs.declared.constraint.Kind.TheVariants.{NoOverlap}
use Rattle.cps_gen.specs.Parts.{in_force}
use Rattle.cps_gen.specs.Jobshop.{tasks_on}
use Rattle.cps_gen.proofs.Lists.{made_more}
use Rattle.cps_gen.proofs.jobshop.add_machines.Goals as goal

pub loop-machine-preserved : goal.loop-machine-preserved
loop-machine-preserved c =
    let n = c.args.shop.now.size in
    c.in_ok-push.ensures.items
    ∙ made_more (λ m. in_force (NoOverlap (map pos (tasks_on n m)))) c.loop-machine.machine c.args.constraints.now.items c.loop-machine.constraints.items _
    (c.in_force.ensures ∙ ap (λ refs. in_force (NoOverlap refs)) c.in_ok-tasks_on.ensures) c.loop-machine.invariant
