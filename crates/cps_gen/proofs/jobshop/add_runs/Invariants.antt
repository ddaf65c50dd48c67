-- The tasks below the index run.
use Rattle.std.proofs.Common.{◌≡◌, ◌++◌, map}
use Rattle.cps_gen.specs.Parts.{first, in_force}
use Rattle.cps_gen.specs.Jobshop.{run}
use Rattle.cps_gen.specs.Shops.{draws_in}
use Rattle.cps_gen.proofs.jobshop.add_runs.Given as goal

abbrev pub invariant-loop-task : goal.invariant-loop-task
invariant-loop-task l =
    l.constraints.items ≡ l.initial.constraints.items ++ map (λ t. in_force (run (draws_in l.shop) t)) (first l.task)
