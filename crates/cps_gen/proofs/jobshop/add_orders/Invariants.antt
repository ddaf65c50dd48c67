-- The tasks below the index that are not the first of their jobs have their order.
use Rattle.std.proofs.Common.{◌≡◌, ◌-◌, ◌++◌, map}
use Rattle.std.specs.Prelude.{filter}
use Rattle.cps_gen.specs.Parts.{first, in_force}
use Rattle.cps_gen.specs.Jobshop.{no_sooner, is_later}
use Rattle.cps_gen.specs.Shops.{draws_in}
use Rattle.cps_gen.proofs.jobshop.add_orders.Given as goal

abbrev pub invariant-loop-task : goal.invariant-loop-task
invariant-loop-task l =
    l.constraints.items
    ≡ l.initial.constraints.items
    ++ map (λ t. in_force (no_sooner (draws_in l.shop) l.shop.size t (t - 1))) (filter (is_later l.shop.size) (first l.task))
