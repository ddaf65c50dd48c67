-- Facts beside which the body cannot hold make the conflict, or what was narrowed before.
use Rattle.std.proofs.Common.{List, Ok, ap, sym, subst}
use Rattle.cps_literal.specs.declared.atom.Atom.{Atom}
use Rattle.cps_instance.specs.Tasks.{HoldsTask}
use Rattle.cps_trail.specs.Trail.{Trail}
use Rattle.cps_propagate.specs.Conflicts.{IsConflictBy}
use Rattle.cps_rule.specs.Rules.{IsFittingRule, AreFacts, IsRefuted}
use Rattle.cps_enforce.specs.Reasons.{task_of}
use Rattle.cps_enforce.proofs.Denials.{on_ok}
use Rattle.cps_enforce.proofs.Tasks.{force_rule, force_facts}
use Rattle.cps_enforce.proofs.narrow.conflict_of.Goals as goal

pub refute-requires : goal.refute-requires
refute-requires g c =
    let b = g.R.Rule.body c.args.rule.now in
    record { fits = subst (λ (s : Trail). IsFittingRule s.first b) (sym c.present-past.ensures) (force_rule c.args.store.now c.args.enforcement.now b c.requires.force) }

pub conflict_by-requires-clause-enforcement : goal.conflict_by-requires-clause-enforcement
conflict_by-requires-clause-enforcement g c =
    let b = g.R.Rule.body c.args.rule.now in
    subst (λ (s : Trail). AreFacts s c.args.enforcement.now) (sym c.present-past.ensures) (force_facts c.args.store.now c.args.enforcement.now b c.requires.force)

pub conflict_by-requires-clause-facts : goal.conflict_by-requires-clause-facts
conflict_by-requires-clause-facts g c = subst (λ (l : List Atom). AreFacts c.present-past.result l) (sym c.as_slice-facts.ensures.value) (c.in_ok-is_refuted.ensures (ap Ok c.if-is_refuted.true)).facts

pub returns-then-is_refuted : goal.returns-then-is_refuted
returns-then-is_refuted g c =
    let b = g.R.Rule.body c.args.rule.now in
    let refuted = subst (λ (l : List Atom). IsRefuted b c.present-past.result l) (sym c.as_slice-facts.ensures.value) (c.in_ok-is_refuted.ensures (ap Ok c.if-is_refuted.true)) in
    on_ok c.conflict_by.result _ _ c.conflict_by.ensures (λ made. subst (λ (s : Trail). IsConflictBy (task_of c.args.enforcement.now b) s c.conflict_by.new.reason.items) c.present-past.ensures (made b refuted))

pub returns : goal.returns
returns g c = c.conflict_by_past.ensures
