-- Each task of the instance is of a kind that has a propagator, and the worker begins with an instance of the model.
use Rattle.std.specs.Prelude.{All}
use Rattle.std.proofs.Common.{◌≡◌, ◌+◌, true, List, sym, subst}
use Rattle.cps_instance.specs.declared.task.Task.{Task}
use Rattle.cps_kinds.specs.Kinds.{has_propagator}
use Rattle.cps_kinds.proofs.PropagatedTasks.{first_tasks-have}
use Rattle.cps_neighbourhood.specs.Drawing.{draws_of}
use Rattle.cps_portfolio.proofs.worker.near_worker.Goals as goal

pub engine_of-requires : goal.engine_of-requires
engine_of-requires c =
    subst (λ (ts : List Task). All (λ t. has_propagator t.body ≡ true) ts) (sym c.in_ok-instance.ensures.tasks) (first_tasks-have c.args.model.now c.requires.kinds)

pub returns-clause-begins : goal.returns-clause-begins
returns-clause-begins c =
    let i = c.in_ok-instance.ensures in
    record {
      instance = c.in_ok-instance.instance;
      first = record { sound = i.sound; model = i.model; sums = i.sums };
      draws = draws_of c.args.options.now.seed (16 + c.args.number);
      is = c.in_ok-worker.ensures.begins;
    }
