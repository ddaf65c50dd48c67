use Rattle.std.proofs.Common.{◌∙◌, ◌+◌, ap, sym, subst, Ok, refl, List, length}
use Rattle.cps_instance.specs.declared.task.Task.{Task}
use Rattle.cps_trail.specs.Notes.{AllFit, IsGivenAt}
use Rattle.cps_trail.specs.Trail.{Trail, Entry, Decision}
use Rattle.cps_propagation_tests.proofs.Noting.{none_fit, none_noted, decided_fit, inferred_fit}
use Rattle.cps_propagate.specs.Agenda.{Agenda}
use Rattle.cps_propagate.specs.Laws.{IsInStep}
use Rattle.cps_propagate.specs.Notes.{ByTasks}
use Rattle.cps_propagation_tests.proofs.SumFits.{decided_recalls, decided_step, fits_after}
use Rattle.cps_propagation_tests.proofs.engines.run_on.Goals as goal

pub run_from-requires-clause-fits : goal.run_from-requires-clause-fits
run_from-requires-clause-fits g c = fits_after c.args.store.now.first c.decide.new.store.first c.args.engine.now.tasks c.run.new.self.tasks
    (ap (λ (a : Agenda). a.tasks) c.in_ok-run.ensures.keeps)
    (c.in_ok-was_open.ensures.first ∙ c.in_ok-run.ensures.infers.first) c.requires.fits

pub run_from-requires-clause-in_step : goal.run_from-requires-clause-in_step
run_from-requires-clause-in_step g c =
    let tasks = c.args.engine.now.tasks in
    let s = c.run.new.store in
    let t = c.decide.new.store in
    let from = length c.entries-from.result.now in
    let e : Entry = record { atom = c.args.atom; level = s.level + 1; reason = Decision } in
    subst (λ (us : List Task). IsInStep us t from) (ap (λ (a : Agenda). a.tasks) (sym c.in_ok-run.ensures.keeps))
    (decided_step (ByTasks tasks) tasks c.args.store.now s t e from c.requires.level c.in_ok-run.ensures.infers (c.in_ok-run.ensures.at_rest (ap Ok c.in-Settled.is)) c.entries-from.ensures.sound refl
    (c.in_ok-was_open.ensures.decided (ap Ok c.if-was_open.true)) c.entries-from.ensures.views.same_length)

pub run_from-requires-clause-recalls : goal.run_from-requires-clause-recalls
run_from-requires-clause-recalls g c =
    let decided = c.in_ok-was_open.ensures.decided (ap Ok c.if-was_open.true) in
    let e : Entry = record { atom = c.args.atom; level = c.run.new.store.level + 1; reason = Decision } in
    decided_recalls c.run.new.self.recall c.run.new.store c.decide.new.store e (length c.entries-from.result.now) c.in_ok-run.ensures.recalls
    (ap (λ (w : Trail). w.first) decided) (ap (λ (w : Trail). w.entries) decided) c.entries-from.ensures.views.same_length

pub returns-after-branch-5 : goal.returns-after-branch-5
returns-after-branch-5 g c = λ _.
    let tasks = c.args.engine.now.tasks in
    let r = c.args.store.now in
    let s = c.run.new.store in
    let t = c.decide.new.store in
    let u = c.run_from.new.store in
    let e : Entry = record { atom = c.args.atom; level = s.level + 1; reason = Decision } in
    let decided = c.in_ok-was_open.ensures.decided (ap Ok c.if-was_open.true) in
    let at_first : AllFit (IsGivenAt (ByTasks tasks)) s = inferred_fit (ByTasks tasks) r s c.in_ok-run.ensures.infers (none_fit (IsGivenAt (ByTasks tasks)) r (none_noted r c.requires.none)) in
    let then : AllFit (IsGivenAt (ByTasks tasks)) t = decided_fit (ByTasks tasks) s t e (ap (λ (w : Trail). w.first) decided) (ap (λ (w : Trail). w.entries) decided) refl at_first in
    let same : AllFit (IsGivenAt (ByTasks c.run.new.self.tasks)) t = subst (λ (a : Agenda). AllFit (IsGivenAt (ByTasks a.tasks)) t) (sym c.in_ok-run.ensures.keeps) then in
    subst (λ (a : Agenda). AllFit (IsGivenAt (ByTasks a.tasks)) u) (sym c.in_ok-run_from.ensures.keeps) (inferred_fit (ByTasks c.run.new.self.tasks) t u c.in_ok-run_from.ensures.infers same)
