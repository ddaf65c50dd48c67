-- The facts beside which the body cannot hold make the reason, with the other enforcement atoms.
use Rattle.std.proofs.Common.{List, Ok, ap, sym, subst}
use Rattle.cps_literal.specs.declared.atom.Atom.{Atom}
use Rattle.cps_instance.specs.Tasks.{HoldsTask}
use Rattle.cps_rule.specs.Rules.{AreFacts, IsRefuted}
use Rattle.cps_enforce.specs.Reasons.{IsReasonFor, task_of}
use Rattle.cps_enforce.proofs.Forces.{but_facts}
use Rattle.cps_enforce.proofs.Tasks.{fits_rule, fits_negatable, off_reason}
use Rattle.cps_enforce.proofs.Denials.{no_yes}
use Rattle.cps_enforce.proofs.explain.explain_off.Goals as goal

pub refute-requires : goal.refute-requires
refute-requires g c = record { fits = fits_rule c.args.past.now.first c.args.waiting.now.enforcement.now (g.R.Rule.body c.args.rule.now) c.requires.fits }

pub deny_others-requires-clause-enforcement : goal.deny_others-requires-clause-enforcement
deny_others-requires-clause-enforcement g c =
    but_facts c.args.past.now c.args.waiting.now.enforcement.now c.args.waiting.now.place (fits_negatable c.args.past.now.first c.args.waiting.now.enforcement.now (g.R.Rule.body c.args.rule.now) c.requires.fits) c.requires.open

pub deny_others-requires-clause-facts : goal.deny_others-requires-clause-facts
deny_others-requires-clause-facts g c = subst (λ (l : List Atom). AreFacts c.args.past.now l) (sym c.as_slice-facts.ensures.value) (c.in_ok-is_refuted.ensures (ap Ok c.if-not-is_refuted.false)).facts

pub returns : goal.returns
returns g c = λ _.
    let b = g.R.Rule.body c.args.rule.now in
    let s = c.args.past.now in
    let t = c.args.narrowing.now.target in
    let refuted = subst (λ (l : List Atom). IsRefuted b c.args.past.now l) (sym c.as_slice-facts.ensures.value) (c.in_ok-is_refuted.ensures (ap Ok c.if-not-is_refuted.false)) in
    subst (λ (l : List Atom). IsReasonFor (task_of c.args.waiting.now.enforcement.now b) c.args.past.now c.args.narrowing.now.target l) (sym c.in_ok-push.ensures.items)
    (off_reason s c.args.waiting.now.enforcement.now c.args.waiting.now.place c.negate-negation.result b c.requires.open.inside c.negate-negation.ensures.subject c.negate-negation.ensures.negated
    c.as_slice-facts.result.now c.deny_others.new.reason.items t c.in_ok-deny_others.ensures c.requires.subject (c.implies.ensures.0 c.if-not-implies.false) refuted)

pub returns-then-not-implies : goal.returns-then-not-implies
returns-then-not-implies g c = λ ok. no_yes _ ok

pub returns-then-not-is_refuted : goal.returns-then-not-is_refuted
returns-then-not-is_refuted g c = λ ok. no_yes _ ok
