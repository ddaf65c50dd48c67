-- Each task of the instance is of a kind that has a propagator.
use Rattle.std.specs.Prelude.{All, None}
use Rattle.std.proofs.Common.{◌≡◌, true, false, List, refl, sym, ap, subst}
use Rattle.cps_instance.specs.declared.task.Task.{Task}
use Rattle.cps_kinds.specs.Kinds.{has_propagator}
use Rattle.std.proofs.lemmas.Result.{IfOk-weaker}
use Rattle.cps_kinds.proofs.PropagatedTasks.{first_tasks-have}
use Rattle.cps_crew.specs.Workers.{Begins}
use Rattle.cps_portfolio.proofs.BlankLogs.{begins_with}
use Rattle.cps_portfolio.proofs.worker.activity_worker.Goals as goal

pub engine_of-requires : goal.engine_of-requires
engine_of-requires c =
    subst (λ (ts : List Task). All (λ t. has_propagator t.body ≡ true) ts) (sym c.in_ok-instance.ensures.tasks) (first_tasks-have c.args.model.now c.requires.kinds)

pub returns-clause-begins : goal.returns-clause-begins
returns-clause-begins c =
    let i = c.in_ok-instance.ensures in
    let m = c.args.model.now in
    IfOk-weaker c.new.result _ (λ w. Begins m c.args.gap c.args.conflicts false w.0)
    (λ w is. begins_with c.in_ok-instance.instance m c.args.gap c.args.conflicts false None w.0 i.sound i.model i.sums tt refl (ap (λ (x : _). x.0) is)) c.new.ensures.is
