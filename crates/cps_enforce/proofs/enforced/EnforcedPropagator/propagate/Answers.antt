-- The task is that of the enforcement atoms and the rule, so what a visit does for these it does for the task.
use Rattle.std.proofs.Common.{◌∙◌, List, Ok, ap, sym, subst}
use Rattle.cps_literal.specs.declared.atom.Atom.{Atom}
use Rattle.cps_instance.specs.declared.task.Task.{Task}
use Rattle.cps_instance.specs.Fitting.{IsFitting}
use Rattle.cps_instance.specs.Tasks.{HoldsTask}
use Rattle.cps_trail.specs.Adds.{Infers}
use Rattle.cps_trail.specs.Notes.{ByTask}
use Rattle.cps_propagate.specs.declared.propagator.Answer.{Answer}
use Rattle.cps_propagate.specs.Conflicts.{IsConflictBy, AnswersBy, as_step}
use Rattle.cps_propagate.specs.Laws.{IsDecided}
use Rattle.cps_propagate.specs.Strength.{IsStrong}
use Rattle.cps_enforce.specs.Reasons.{task_of}
use Rattle.cps_enforce.proofs.Tasks.{settled_decided, settled_strong}
use Rattle.cps_enforce.proofs.enforced.EnforcedPropagator.propagate.Goals as goal

pub returns-in-NoConflict-clause-decided : goal.returns-in-NoConflict-clause-decided
returns-in-NoConflict-clause-decided g c e =
    let b = g.R.Rule.body c.self.inside.rule in
    subst (λ (t : Task). IsDecided t c.visit.new.store) (ap (λ (us : List Atom). task_of us b) c.as_slice.ensures.value ∙ c.self.view_is)
    (settled_decided c.visit.new.store c.as_slice.result.now b (c.in_ok-visit.ensures.settled (ap Ok c.in-NoConflict.is)))

pub returns-in-NoConflict-clause-strong : goal.returns-in-NoConflict-clause-strong
returns-in-NoConflict-clause-strong g c e same =
    let b = g.R.Rule.body c.self.inside.rule in
    subst (λ (t : Task). IsStrong t c.visit.new.store) (ap (λ (us : List Atom). task_of us b) c.as_slice.ensures.value ∙ c.self.view_is)
    (settled_strong c.visit.new.store c.as_slice.result.now b (c.in_ok-visit.ensures.settled (ap Ok c.in-NoConflict.is)))

pub returns-in-Conflict-clause-answers : goal.returns-in-Conflict-clause-answers
returns-in-Conflict-clause-answers g c =
    let b = g.R.Rule.body c.self.inside.rule in
    let met = subst (λ (a : Answer). AnswersBy (task_of c.as_slice.result.now b) c.visit.new.store (as_step a c.visit.new.room.conflict.items)) c.in-Conflict.is c.in_ok-visit.ensures.answers in
    let handed = subst (λ (l : List Atom). IsConflictBy (task_of c.as_slice.result.now b) c.visit.new.store l) (sym (ap (λ (v : _). v.items) c.swap.ensures.y_after)) met in
    subst (λ (t : Task). IsConflictBy t c.visit.new.store c.swap.new.y.items) (ap (λ (us : List Atom). task_of us b) c.as_slice.ensures.value ∙ c.self.view_is) handed

pub returns-in-NoConflict-clause-infers : goal.returns-in-NoConflict-clause-infers
returns-in-NoConflict-clause-infers g c =
    let b = g.R.Rule.body c.self.inside.rule in
    subst (λ (t : Task). Infers (ByTask c.args.number (HoldsTask t)) c.args.store.now c.visit.new.store) (ap (λ (us : List Atom). task_of us b) c.as_slice.ensures.value ∙ c.self.view_is) c.in_ok-visit.ensures.infers

pub returns-in-Conflict-clause-infers : goal.returns-in-Conflict-clause-infers
returns-in-Conflict-clause-infers g c =
    let b = g.R.Rule.body c.self.inside.rule in
    subst (λ (t : Task). Infers (ByTask c.args.number (HoldsTask t)) c.args.store.now c.visit.new.store) (ap (λ (us : List Atom). task_of us b) c.as_slice.ensures.value ∙ c.self.view_is) c.in_ok-visit.ensures.infers

pub visit-requires : goal.visit-requires
visit-requires g c =
    let b = g.R.Rule.body c.self.inside.rule in
    record { fits = subst (λ (t : Task). IsFitting c.args.store.now.first t) (sym (ap (λ (us : List Atom). task_of us b) c.as_slice.ensures.value ∙ c.self.view_is)) c.requires.fits }
