use Rattle.std.proofs.Common.{get_or, refl, subst, sym}
use Rattle.cps_clauses.proofs.Notes.{none_view}
use Rattle.cps_propagate.proofs.Noting.{named_by}
use Rattle.cps_search.specs.Logged.{Log}
use Rattle.cps_search.specs.Logging.{GrowsLog}
use Rattle.cps_search.proofs.LogSteps.{given_below, grows_by, reason_given}
use Rattle.cps_search.proofs.log.SearchLog.write_reason.Goals as goal

pub returns : goal.returns
returns g c = λ z h fetched.
    let source = c.args.source.now in
    let p = source.instance.now in
    let s = source.store.now in
    let tasks = source.givers.engine.now.tasks in
    let clauses = source.givers.clauses.now.clauses in
    let task = c.in-Some-task.task in
    let l : Log = record { traced = c.self.inside.tracer; closed = c.self.inside.closed } in
    let m : Log = record { traced = c.write_item.new.tracer; closed = c.self.inside.closed } in
    let named = named_by s c.args.entry task (get_or c.entries.result.now c.args.entry none_view) (λ d. c.entries.ensures.views.each c.args.entry d none_view c.requires) c.in-Some-task.ensures.some in
    let given = given_below p z tasks s task c.args.reason.now h (reason_given tasks clauses s c.args.entry task c.args.reason.now c.requires named fetched) in
    subst (λ (x : Log). GrowsLog p z x c.note.new.self) c.self.view_is
    (subst (λ (x : Log). GrowsLog p z l x) (sym c.note.ensures) (grows_by p z l m refl (c.in_ok-number.ensures z h.ungrown given)))
