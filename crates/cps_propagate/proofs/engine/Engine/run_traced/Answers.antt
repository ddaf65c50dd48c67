-- The tasks that contracts see are those of the list, and a run keeps them.
use Rattle.std.proofs.Common.{◌∙◌, Ok, map, sym, ap, subst, arith}
use Rattle.std.specs.Prelude.{IfSome}
use Rattle.std.specs.List.{All}
use Rattle.cps_instance.specs.Fitting.{IsFitting}
use Rattle.cps_propagate.specs.Agenda.{Agenda}
use Rattle.cps_propagate.specs.Laws.{IsInStep, IsTaskAtRest}
use Rattle.cps_propagate.specs.Wiring.{AreCuts}
use Rattle.std.proofs.lemmas.List.{length-map}
use Rattle.cps_trail.specs.Adds.{Infers}
use Rattle.cps_propagate.specs.declared.engine.Traced.{Traced}
use Rattle.cps_propagate.specs.Notes.{ByTasks}
use Rattle.cps_propagate.specs.Conflicts.{AnswersTraced, as_traced}
use Rattle.cps_propagate.specs.Recalling.{AllRecall}
use Rattle.cps_propagate.proofs.Remembering.{RecallNow-begun, AllRecall-now}
use Rattle.cps_propagate.proofs.Agendas.{no_plan, on_err, refused_now, as_before, planned_again, settled_of}
use Rattle.cps_propagate.proofs.engine.Engine.run_traced.Goals as goal

pub wake-requires-clause-few : goal.wake-requires-clause-few
wake-requires-clause-few g c = let planned = c.self.invariant c.if-self.false in omega (arith, planned.few, planned.count)

pub settle-requires-clause-rest : goal.settle-requires-clause-rest
settle-requires-clause-rest g c =
    let planned = c.self.invariant c.if-self.false in
    let fits = subst (λ (a : Agenda). All (IsFitting c.args.store.now.first) a.tasks) (sym c.self.view_is) c.requires.fits in
    let in_step = subst (λ (a : Agenda). IfSome c.args.rested (IsInStep a.tasks c.args.store.now)) (sym c.self.view_is) c.requires.in_step in
    let cuts = subst (AreCuts _) (sym c.as_slice.ensures.value) planned.are_cuts in
    c.in_ok-wake.ensures.rest _ planned.count fits planned.wired cuts in_step

pub settle-requires-clause-fits : goal.settle-requires-clause-fits
settle-requires-clause-fits g c = subst (λ (a : Agenda). All (IsFitting c.args.store.now.first) a.tasks) (sym c.self.view_is) c.requires.fits

pub settle-requires-clause-count : goal.settle-requires-clause-count
settle-requires-clause-count g c =
    let planned = c.self.invariant c.if-self.false in
    c.in_ok-wake.ensures.count ∙ planned.count ∙ length-map c.self.inside.list.items g.P.Propagator.task

pub settle-requires-clause-wired : goal.settle-requires-clause-wired
settle-requires-clause-wired g c = let planned = c.self.invariant c.if-self.false in planned.wired

pub settle-requires-clause-recalls : goal.settle-requires-clause-recalls
settle-requires-clause-recalls g c =
    let before = subst (λ (a : Agenda). IfSome c.args.rested (AllRecall a.recall c.args.store.now)) (sym c.self.view_is) c.requires.recalls in
    RecallNow-begun (map g.P.Propagator.memory c.self.inside.list.items) c.self.inside.visits.seen c.begin.new.self c.args.store.now c.args.rested before c.in_ok-begin.ensures.stand
    (omega (arith, c.in_ok-begin.ensures.within, c.entries.ensures.views.same_length))

pub returns-clause-recalls : goal.returns-clause-recalls
returns-clause-recalls g c = AllRecall-now _ _ c.in_ok-answer.ensures.recalls

pub invariant_of-self-in_err-begin : goal.invariant_of-self-in_err-begin
invariant_of-self-in_err-begin g c = λ e. no_plan _ e

pub returns-clause-infers : goal.returns-clause-infers
returns-clause-infers g c = subst (λ (a : Agenda). Infers (ByTasks a.tasks) c.args.store.now c.settle.new.store) c.self.view_is c.in_ok-answer.ensures.infers

pub invariant_of-self : goal.invariant_of-self
invariant_of-self g c = λ e. no_plan _ e

pub invariant_of-self-in_err-answer : goal.invariant_of-self-in_err-answer
invariant_of-self-in_err-answer g c = λ e. no_plan _ e

pub invariant_of-self-in_err-traced : goal.invariant_of-self-in_err-traced
invariant_of-self-in_err-traced g c = λ e. no_plan _ e

pub returns-clause-keeps : goal.returns-clause-keeps
returns-clause-keeps g c = as_before g.P.Propagator.task c.args.self.now _ _ c.self.inside.refused c.self.inside.list.items c.settle.new.list.items c.self.view_is c.in_ok-answer.ensures.keeps c.if-self.false

pub returns-in_err-answer-clause-refused : goal.returns-in_err-answer-clause-refused
returns-in_err-answer-clause-refused g c =
    on_err _ _ (refused_now g.P.Propagator.task c.args.self.now _ _ c.self.inside.refused c.self.inside.list.items c.settle.new.list.items c.self.view_is c.in_err-answer.ensures.keeps)

pub returns-in_err-traced-clause-refused : goal.returns-in_err-traced-clause-refused
returns-in_err-traced-clause-refused g c =
    on_err _ _ (refused_now g.P.Propagator.task c.args.self.now _ _ c.self.inside.refused c.self.inside.list.items c.settle.new.list.items c.self.view_is c.in_ok-answer.ensures.keeps)

pub invariant_of-self-2 : goal.invariant_of-self-2
invariant_of-self-2 g c = λ e.
    planned_again (map g.P.Propagator.task c.self.inside.list.items) (map g.P.Propagator.task c.settle.new.list.items) c.self.inside.readers c.self.inside.cuts.items c.self.inside.queue.waits c.settle.new.queue.waits c.in_ok-answer.ensures.keeps
    (c.in_ok-answer.ensures.count ∙ c.in_ok-wake.ensures.count) (c.self.invariant c.if-self.false)

pub returns-clause-answers : goal.returns-clause-answers
returns-clause-answers g c =
    subst (λ (t : Traced). AnswersTraced c.args.self.now.tasks c.settle.new.store t) (sym c.in_ok-traced.ensures)
    (subst (λ (a : Agenda). AnswersTraced a.tasks c.settle.new.store (as_traced c.in_ok-answer.answer c.settle.new.visits.met.task c.settle.new.visits.met.clause.items)) c.self.view_is c.in_ok-answer.ensures.answers)

pub returns-clause-at_rest : goal.returns-clause-at_rest
returns-clause-at_rest g c = λ e.
    let settled = settled_of c.in_ok-answer.answer c.settle.new.visits.met.task c.settle.new.visits.met.clause.items c.in_ok-traced.traced c.in_ok-traced.ensures e in
    subst (λ (a : Agenda). All (λ t. IsTaskAtRest t c.settle.new.store) a.tasks) c.self.view_is (c.in_ok-answer.ensures.at_rest (ap Ok settled))
