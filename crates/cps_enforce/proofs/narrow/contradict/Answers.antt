-- Facts that give the atom, which is false, make the conflict, or what was narrowed before.
use Rattle.std.proofs.Common.{◌<◌, List, Ok, ap, sym, subst, length}
use Rattle.cps_literal.specs.declared.atom.Atom.{Atom}
use Rattle.cps_instance.specs.Tasks.{HoldsTask}
use Rattle.cps_trail.specs.Trail.{Trail}
use Rattle.cps_rule.specs.Rules.{IsFittingRule, AreFacts, IsExplained}
use Rattle.cps_enforce.specs.Reasons.{task_of, IsReasonFor}
use Rattle.cps_enforce.proofs.Denials.{on_ok, conflict_of_reason}
use Rattle.cps_enforce.proofs.Tasks.{force_rule, force_facts, given_false}
use Rattle.cps_enforce.proofs.narrow.contradict.Goals as goal

pub explain-requires : goal.explain-requires
explain-requires g c =
    let b = g.R.Rule.body c.args.rule.now in
    record { fits = subst (λ (s : Trail). IsFittingRule s.first b) (sym c.present-past.ensures) (force_rule c.args.store.now c.args.enforcement.now b c.requires.force) }

pub give_by-requires-clause-enforcement : goal.give_by-requires-clause-enforcement
give_by-requires-clause-enforcement g c =
    let b = g.R.Rule.body c.args.rule.now in
    subst (λ (s : Trail). AreFacts s c.args.enforcement.now) (sym c.present-past.ensures) (force_facts c.args.store.now c.args.enforcement.now b c.requires.force)

pub give_by-requires-clause-facts : goal.give_by-requires-clause-facts
give_by-requires-clause-facts g c = subst (λ (l : List Atom). AreFacts c.present-past.result l) (sym c.as_slice-facts.ensures.value) (c.in_ok-is_explained.ensures (ap Ok c.if-is_explained.true)).facts

pub give_by-requires-clause-subject : goal.give_by-requires-clause-subject
give_by-requires-clause-subject g c = subst (λ (s : Trail). c.args.narrowing.now.target.subject < length s.first) (sym c.present-past.ensures) c.requires.given.subject

pub returns-then-is_own : goal.returns-then-is_own
returns-then-is_own g c =
    let b = g.R.Rule.body c.args.rule.now in
    let t = c.args.narrowing.now.target in
    let explained = subst (λ (l : List Atom). IsExplained b c.present-past.result c.args.narrowing.now.target l) (sym c.as_slice-facts.ensures.value) (c.in_ok-is_explained.ensures (ap Ok c.if-is_explained.true)) in
    on_ok c.give_by.result _ _ c.give_by.ensures (λ made.
    conflict_of_reason (task_of c.args.enforcement.now b) c.args.store.now t c.give_by.new.reason.items
    (subst (λ (s : Trail). IsReasonFor (task_of c.args.enforcement.now b) s c.args.narrowing.now.target c.give_by.new.reason.items) c.present-past.ensures (made b explained)) c.requires.false_now (c.in_ok-is_own.ensures (ap Ok c.if-is_own.true)))

pub conflict_by_past-requires-clause-impossible : goal.conflict_by_past-requires-clause-impossible
conflict_by_past-requires-clause-impossible g c = given_false c.args.store.now (g.R.Rule.body c.args.rule.now) c.args.narrowing.now.target c.requires.given c.requires.false_now

pub returns : goal.returns
returns g c = c.conflict_by_past.ensures
