-- The machines below the index run one task at a time.
use Rattle.std.proofs.Common.{◌≡◌, ◌++◌, pos, map}
use Rattle.cps_model.specs.declared.constraint.Kind.TheVariants.{NoOverlap}
use Rattle.cps_gen.specs.Parts.{first, in_force}
use Rattle.cps_gen.specs.Jobshop.{tasks_on}
use Rattle.cps_gen.proofs.jobshop.add_machines.Given as goal

abbrev pub invariant-loop-machine : goal.invariant-loop-machine
invariant-loop-machine l =
    l.constraints.items ≡ l.initial.constraints.items ++ map (λ m. in_force (NoOverlap (map pos (tasks_on l.shop.size m)))) (first l.machine)
