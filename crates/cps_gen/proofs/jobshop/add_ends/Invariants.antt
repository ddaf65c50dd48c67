-- The end of all is no sooner than the last tasks of the jobs below the index.
use Rattle.std.proofs.Common.{◌≡◌, ◌*◌, ◌++◌, map}
use Rattle.cps_gen.specs.Parts.{first, in_force}
use Rattle.cps_gen.specs.Jobshop.{no_sooner, last_task}
use Rattle.cps_gen.specs.Shops.{draws_in}
use Rattle.cps_gen.proofs.jobshop.add_ends.Given as goal

abbrev pub invariant-loop-job : goal.invariant-loop-job
invariant-loop-job l =
    l.constraints.items
    ≡ l.initial.constraints.items
    ++ map (λ job. in_force (no_sooner (draws_in l.shop) l.shop.size (l.shop.size * l.shop.size) (last_task l.shop.size job))) (first l.job)
