-- The tasks below the index that are on the machine are listed.
use Rattle.std.proofs.Common.{◌≡◌, pos, map}
use Rattle.std.specs.Prelude.{filter, ◌==◌}
use Rattle.cps_gen.specs.Parts.{first}
use Rattle.cps_gen.specs.Jobshop.{machine}
use Rattle.cps_gen.proofs.jobshop.tasks_on.Given as goal

abbrev pub invariant-loop-task : goal.invariant-loop-task
invariant-loop-task l = l.refs.items ≡ map pos (filter (λ t. machine l.size t == l.machine) (first l.task))
