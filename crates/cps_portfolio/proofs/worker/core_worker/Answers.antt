-- Each task of the instance is of a kind that has a propagator, the instance has few subjects, and the worker begins with it.
use Rattle.std.specs.Prelude.{All}
use Rattle.std.proofs.Common.{◌≡◌, ◌∙◌, true, List, sym, ap, subst}
use Rattle.std.proofs.lemmas.Result.{IfOk-weaker}
use Rattle.cps_branch.specs.Activities.{ByActivity}
use Rattle.cps_instance.specs.declared.task.Task.{Task}
use Rattle.cps_instance.specs.Strategies.{model_sums}
use Rattle.cps_kinds.specs.Kinds.{has_propagator}
use Rattle.cps_kinds.proofs.PropagatedTasks.{first_tasks-have}
use Rattle.cps_core_guided.specs.Reforming.{CoreSearch}
use Rattle.cps_crew.specs.Workers.{BeginsCores, IsFirstInstance}
use Rattle.cps_portfolio.proofs.Room.{few_subjects}
use Rattle.cps_portfolio.proofs.worker.core_worker.Goals as goal

pub engine_of-requires : goal.engine_of-requires
engine_of-requires c =
    subst (λ (ts : List Task). All (λ t. has_propagator t.body ≡ true) ts) (sym c.in_ok-instance.ensures.tasks) (first_tasks-have c.args.model.now c.requires.kinds)

pub new-requires-clause-few : goal.new-requires-clause-few
new-requires-clause-few c = let i = c.in_ok-instance.ensures in few_subjects c.in_ok-instance.instance i.sound (i.sums ∙ ap model_sums (sym i.model))

pub returns-clause-begins : goal.returns-clause-begins
returns-clause-begins c =
    let i = c.in_ok-instance.ensures in
    let first : IsFirstInstance c.args.model.now c.in_ok-instance.instance = record { sound = i.sound; model = i.model; sums = i.sums } in
    IfOk-weaker c.new.result _ (λ (w : CoreSearch × ByActivity). BeginsCores c.args.model.now c.args.gap c.args.conflicts w.0) (λ w is. record { instance = c.in_ok-instance.instance; first = first; is = is }) c.new.ensures.begins
