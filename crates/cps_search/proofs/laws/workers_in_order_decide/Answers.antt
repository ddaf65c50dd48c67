use Rattle.std.proofs.Common.{Some, refl}
use Rattle.cps_branch.specs.Guidances.{in_order}
use Rattle.cps_search.proofs.RunsInOrder.{few_conflicts, never_spent}
use Rattle.cps_search.proofs.laws.workers_in_order_decide.Goals as goal

pub returns-clause-few : goal.returns-clause-few
returns-clause-few c = λ p gap rows budget log plan t before after end runs. few_conflicts p gap rows budget log (in_order plan) tt t before after end runs

pub returns-clause-unspent : goal.returns-clause-unspent
returns-clause-unspent c = λ p gap rows budget log plan t before after clause below within runs.
    never_spent p gap rows (Some budget) log (in_order plan) tt t before after clause below budget refl within runs
