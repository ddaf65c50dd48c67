-- Each task of the instance is of a kind that has a propagator, and the worker has not begun.
use Rattle.std.specs.Prelude.{All}
use Rattle.std.proofs.Common.{◌≡◌, ◌∙◌, ℕ, ◌+◌, true, List, sym, ap, subst}
use Rattle.std.proofs.lemmas.Result.{IfOk-weaker}
use Rattle.cps_instance.specs.declared.task.Task.{Task}
use Rattle.cps_kinds.specs.Kinds.{has_propagator}
use Rattle.cps_kinds.proofs.PropagatedTasks.{first_tasks-have}
use Rattle.cps_search.specs.Ends.{IsOver}
use Rattle.cps_search.specs.Searches.{Search}
use Rattle.cps_neighbourhood.specs.Drawing.{draws_of}
use Rattle.cps_neighbourhood.specs.Nears.{Near, BeginsNear}
use Rattle.cps_worker_tests.proofs.near.near_worker_of.Goals as goal

pub engine_of-requires : goal.engine_of-requires
engine_of-requires c =
    subst (λ (ts : List Task). All (λ t. has_propagator t.body ≡ true) ts) (sym c.in_ok-instance.ensures.tasks) (first_tasks-have c.args.model.now c.requires.kinds)

pub returns-clause-model : goal.returns-clause-model
returns-clause-model c =
    IfOk-weaker c.new.result (λ (w : Near). BeginsNear c.in_ok-instance.instance 0 c.args.conflicts (draws_of 1 (16 + 3)) w) (λ (w : Near). w.search.instance.model ≡ c.args.model.now)
    (λ w b. ap (λ (x : Search). x.instance.model) b.search ∙ c.in_ok-instance.ensures.model) c.new.ensures.begins

pub returns-clause-running : goal.returns-clause-running
returns-clause-running c =
    IfOk-weaker c.new.result (λ (w : Near). BeginsNear c.in_ok-instance.instance 0 c.args.conflicts (draws_of 1 (16 + 3)) w) (λ (w : Near). IsOver w.search.phase → ⊥)
    (λ w b over. subst (λ (x : Search). IsOver x.phase) b.search over) c.new.ensures.begins

pub returns-clause-imported : goal.returns-clause-imported
returns-clause-imported c =
    IfOk-weaker c.new.result (λ (w : Near). BeginsNear c.in_ok-instance.instance 0 c.args.conflicts (draws_of 1 (16 + 3)) w) (λ (w : Near). w.search.imported ≡ 0)
    (λ w b. ap (λ (x : Search). x.imported) b.search) c.new.ensures.begins
