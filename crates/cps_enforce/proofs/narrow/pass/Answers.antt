-- A look keeps the body, so what is made true of what it found is so of the body before.
use Rattle.std.specs.Prelude.{All, IfOk}
use Rattle.std.proofs.Common.{List, Ok, OnOk, ap, subst, sym}
use Rattle.cps_instance.specs.declared.task.Body.{Body}
use Rattle.cps_instance.specs.Tasks.{HoldsTask}
use Rattle.cps_trail.specs.Trail.{Trail, IsTrueNow}
use Rattle.cps_trail.specs.Adds.{Infers}
use Rattle.cps_trail.specs.Notes.{ByTask}
use Rattle.cps_propagate.specs.Conflicts.{AnswersBy, as_step}
use Rattle.cps_rule.specs.declared.rule.Narrowing.{Narrowing}
use Rattle.cps_rule.specs.Rules.{IsGiven}
use Rattle.cps_enforce.specs.Reasons.{task_of}
use Rattle.cps_enforce.specs.Settling.{IsTaskInForce}
use Rattle.cps_enforce.proofs.Denials.{when_ok}
use Rattle.cps_enforce.proofs.Tasks.{force_rule, resting_same, seen_possible}
use Rattle.cps_enforce.proofs.narrow.pass.Goals as goal

pub look-requires : goal.look-requires
look-requires g c = record { fits = force_rule c.args.store.now c.args.header.now.enforcement.now (g.R.Rule.body c.args.rule.now) c.requires.force }

pub returns-in-Possible-clause-rest : goal.returns-in-Possible-clause-rest
returns-in-Possible-clause-rest g c e same =
    let h = c.args.header.now in
    let s = c.args.store.now in
    let b = g.R.Rule.body c.args.rule.now in
    let made = subst (λ (l : List Narrowing). All (λ (n : Narrowing). IsTrueNow c.narrow_all.new.store n.target) l) c.as_slice.ensures.value (c.narrow_all.ensures.made e) in
    resting_same (ByTask h.number (HoldsTask (task_of h.enforcement.now (g.R.Rule.body c.look.new.self)))) s c.narrow_all.new.store b (when_ok c.narrow_all.result _ _ e c.narrow_all.ensures.infers) same
    (λ is. c.in_ok-look.ensures.rest (ap Ok c.in-Possible.is) (subst (λ (v : Trail). All (λ (n : Narrowing). IsTrueNow v n.target) c.look.new.found.items) is made))
    (seen_possible b s _ c.in-Possible.is c.in_ok-look.ensures.seen)

pub returns-in-Possible-clause-infers : goal.returns-in-Possible-clause-infers
returns-in-Possible-clause-infers g c =
    subst (λ (b : Body). OnOk c.narrow_all.result (Infers (ByTask c.args.header.now.number (HoldsTask (task_of c.args.header.now.enforcement.now b))) c.args.store.now c.narrow_all.new.store)) c.look.ensures.keeps c.narrow_all.ensures.infers

pub returns-in-Possible-clause-answers : goal.returns-in-Possible-clause-answers
returns-in-Possible-clause-answers g c =
    subst (λ (b : Body). IfOk c.narrow_all.result (λ answer. AnswersBy (task_of c.args.header.now.enforcement.now b) c.narrow_all.new.store (as_step answer c.narrow_all.new.room.conflict.items))) c.look.ensures.keeps c.narrow_all.ensures.answers

pub narrow_all-requires-clause-force : goal.narrow_all-requires-clause-force
narrow_all-requires-clause-force g c = subst (λ (b : Body). IsTaskInForce c.args.store.now c.args.header.now.enforcement.now b) (sym c.look.ensures.keeps) c.requires.force

pub conflict_of-requires-clause-force : goal.conflict_of-requires-clause-force
conflict_of-requires-clause-force g c = subst (λ (b : Body). IsTaskInForce c.args.store.now c.args.header.now.enforcement.now b) (sym c.look.ensures.keeps) c.requires.force

pub narrow_all-requires-clause-given : goal.narrow_all-requires-clause-given
narrow_all-requires-clause-given g c =
    subst (λ (l : List Narrowing). All (λ (n : Narrowing). IsGiven (g.R.Rule.body c.look.new.self) c.args.store.now n.target) l) (sym c.as_slice.ensures.value)
    (subst (λ (b : Body). All (λ (n : Narrowing). IsGiven b c.args.store.now n.target) c.look.new.found.items) (sym c.look.ensures.keeps) c.in_ok-look.ensures.given)
