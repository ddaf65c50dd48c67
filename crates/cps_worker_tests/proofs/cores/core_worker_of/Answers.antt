-- Each task of the instance is of a kind that has a propagator, the instance has few subjects, and the worker has not begun.
use Rattle.std.specs.Prelude.{All}
use Rattle.std.proofs.Common.{◌≡◌, ◌∙◌, ℕ, true, List, sym, ap, subst}
use Rattle.std.proofs.lemmas.Result.{IfOk-weaker}
use Rattle.cps_branch.specs.Activities.{ByActivity}
use Rattle.cps_instance.specs.declared.task.Task.{Task}
use Rattle.cps_instance.specs.Strategies.{model_sums}
use Rattle.cps_kinds.specs.Kinds.{has_propagator}
use Rattle.cps_kinds.proofs.PropagatedTasks.{first_tasks-have}
use Rattle.cps_search.specs.declared.end.Phase.{Phase}
use Rattle.cps_search.specs.Ends.{IsOver}
use Rattle.cps_search.specs.Searches.{Search}
use Rattle.cps_core_guided.specs.CoreTurns.{BeginsCore}
use Rattle.cps_core_guided.specs.Reforming.{CoreSearch, whole}
use Rattle.cps_core_guided.proofs.CoreTurnCauses.{phase-search}
use Rattle.cps_portfolio.proofs.Room.{few_subjects}
use Rattle.cps_worker_tests.proofs.cores.core_worker_of.Goals as goal

pub engine_of-requires : goal.engine_of-requires
engine_of-requires c =
    subst (λ (ts : List Task). All (λ t. has_propagator t.body ≡ true) ts) (sym c.in_ok-instance.ensures.tasks) (first_tasks-have c.args.model.now c.requires.kinds)

pub new-requires-clause-few : goal.new-requires-clause-few
new-requires-clause-few c = let i = c.in_ok-instance.ensures in few_subjects c.in_ok-instance.instance i.sound (i.sums ∙ ap model_sums (sym i.model))

pub returns-clause-model : goal.returns-clause-model
returns-clause-model c =
    let i = c.in_ok-instance.ensures in
    IfOk-weaker c.new.result (λ (w : CoreSearch × ByActivity). BeginsCore c.in_ok-instance.instance 0 10000 w.0)
    (λ (w : CoreSearch × ByActivity). w.0.search.instance.model ≡ c.args.model.now)
    (λ w b. b.instance ∙ i.model) c.new.ensures.begins

pub returns-clause-running : goal.returns-clause-running
returns-clause-running c =
    IfOk-weaker c.new.result (λ (w : CoreSearch × ByActivity). BeginsCore c.in_ok-instance.instance 0 10000 w.0)
    (λ (w : CoreSearch × ByActivity). IsOver (whole w.0).phase → ⊥)
    (λ w b over. subst (λ (x : Phase). IsOver x) (phase-search w.0 b.ended ∙ ap (λ (x : Search). x.phase) b.search) over) c.new.ensures.begins

pub returns-clause-imported : goal.returns-clause-imported
returns-clause-imported c =
    IfOk-weaker c.new.result (λ (w : CoreSearch × ByActivity). BeginsCore c.in_ok-instance.instance 0 10000 w.0)
    (λ (w : CoreSearch × ByActivity). w.0.search.imported ≡ 0)
    (λ w b. ap (λ (x : Search). x.imported) b.search) c.new.ensures.begins
