-- Each task of the instance is of a kind that has a propagator. The log is of the instance's model.
use Rattle.std.specs.Prelude.{All, Some}
use Rattle.std.proofs.Common.{◌≡◌, ◌∙◌, true, List, sym, ap, subst}
use Rattle.cps_instance.specs.declared.task.Task.{Task}
use Rattle.cps_kinds.specs.Kinds.{has_propagator}
use Rattle.std.proofs.lemmas.Result.{IfOk-weaker}
use Rattle.cps_kinds.proofs.PropagatedTasks.{first_tasks-have}
use Rattle.cps_crew.specs.Workers.{Begins}
use Rattle.cps_branch.specs.Guidances.{IsPlanOf}
use Rattle.cps_search.specs.Moves.{fresh}
use Rattle.cps_portfolio.proofs.BlankLogs.{begins_with, begun_instance, blank_logs, plans_alike}
use Rattle.cps_portfolio.proofs.worker.fixed_worker.Goals as goal

pub engine_of-requires : goal.engine_of-requires
engine_of-requires c =
    subst (λ (ts : List Task). All (λ t. has_propagator t.body ≡ true) ts) (sym c.in_ok-instance.ensures.tasks) (first_tasks-have c.args.model.now c.requires.kinds)

pub new-requires-clause-log : goal.new-requires-clause-log
new-requires-clause-log c =
    let i = c.in_ok-instance.ensures in
    blank_logs c.in_ok-instance.instance c.args.model.now c.in_ok-log.log i.model i.sums i.tasks c.in_ok-log.ensures.blank

pub returns-clause-begins : goal.returns-clause-begins
returns-clause-begins c =
    let i = c.in_ok-instance.ensures in
    let m = c.args.model.now in
    let o = c.args.options.now in
    let log = c.in_ok-log.log in
    let blank = blank_logs c.in_ok-instance.instance m log i.model i.sums i.tasks c.in_ok-log.ensures.blank in
    IfOk-weaker c.new.result _ (λ w. Begins m o.gap o.conflicts o.log w.0)
    (λ w is. begins_with c.in_ok-instance.instance m o.gap o.conflicts o.log log w.0 i.sound i.model i.sums blank c.in_ok-log.ensures.asked (ap (λ (x : _). x.0) is)) c.new.ensures.is

pub returns-clause-plan : goal.returns-clause-plan
returns-clause-plan c =
    let p = c.in_ok-instance.instance in
    let o = c.args.options.now in
    let log = c.in_ok-log.log in
    let b = c.in_ok-brancher.ensures in
    IfOk-weaker c.new.result _ (λ w. IsPlanOf w.0.instance w.1.plan)
    (λ w is. plans_alike p w.0.instance c.in_ok-brancher.brancher.plan w.1.plan (ap (λ (x : _). x.0.instance) is ∙ begun_instance log (fresh p o.gap (Some o.conflicts))) (ap (λ (x : _). x.1.plan) is) b.follows b.scope) c.new.ensures.is
