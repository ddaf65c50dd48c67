-- Each task of the instance is of a kind that has a propagator.
use Rattle.std.specs.Prelude.{All}
use Rattle.std.proofs.Common.{◌≡◌, true, List, sym, subst}
use Rattle.cps_instance.specs.declared.task.Task.{Task}
use Rattle.cps_kinds.specs.Kinds.{has_propagator}
use Rattle.cps_kinds.proofs.PropagatedTasks.{first_tasks-have}
use Rattle.cps_worker_tests.proofs.turns.ordered_worker_of.Goals as goal

pub engine_of-requires : goal.engine_of-requires
engine_of-requires c =
    subst (λ (ts : List Task). All (λ t. has_propagator t.body ≡ true) ts) (sym c.in_ok-instance.ensures.tasks) (first_tasks-have c.args.model.now c.requires.kinds)
