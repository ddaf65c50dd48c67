-- The last enforcement atom is given its opposite, or all are true and the body holds nowhere.
use Rattle.std.proofs.Common.{arith, ℕ, ◌<◌, length, sym, subst}
use Rattle.cps_p_bool.proofs.Results.{IfOk-map, not_settled}
use Rattle.cps_p_bool.proofs.ReasonConsequences.{GivesAtom-last, IsConflictBy-denied, IsOff-opposite}
use Rattle.cps_p_bool.proofs.NegatableLiterals.{negatable_low, negatable_high, negatable_above, negatable_below}
use Rattle.cps_propagate.proofs.Past.{none}
use Rattle.cps_trail.proofs.Inferring.{Infers-refl}
use Rattle.cps_p_bool.proofs.reasons.reject.Goals as goal

pub returns-then-last-enforcement-clause-infers : goal.returns-then-last-enforcement-clause-infers
returns-then-last-enforcement-clause-infers c = IfOk-map c.infer.result
    (λ _ h body x. h body
    (GivesAtom-last _ _ c.args.rule.now.last _ body _ c.negate-target.result c.requires.in_force c.if-last-enforcement.true (record { subject = c.negate-target.ensures.subject; negated = c.negate-target.ensures.negated }) x))
    c.infer.ensures.infers

pub returns-then-last-enforcement-clause-answers : goal.returns-then-last-enforcement-clause-answers
returns-then-last-enforcement-clause-answers c = IfOk-map c.infer.result
    (λ step h body x. h body
    (GivesAtom-last _ _ c.args.rule.now.last _ body _ c.negate-target.result c.requires.in_force c.if-last-enforcement.true (record { subject = c.negate-target.ensures.subject; negated = c.negate-target.ensures.negated }) x))
    c.infer.ensures.answers

pub returns-then-last-enforcement-clause-refused : goal.returns-then-last-enforcement-clause-refused
returns-then-last-enforcement-clause-refused c = λ e.
    IsOff-opposite _ _ c.args.rule.now.last _ c.negate-target.result c.if-last-enforcement.true (record { subject = c.negate-target.ensures.subject; negated = c.negate-target.ensures.negated }) (c.infer.ensures.made e)

pub returns-clause-answers : goal.returns-clause-answers
returns-clause-answers c = λ body x.
    IsConflictBy-denied _ _ c.args.rule.now.last _ body _ c.requires.in_force (λ l. omega (arith, l, c.if-last-enforcement.false)) x c.in_ok-deny_antecedents.ensures

pub negate-target-requires-clause-low : goal.negate-target-requires-clause-low
negate-target-requires-clause-low c = negatable_low (c.requires.fits c.args.rule.now.last none c.if-last-enforcement.true)

pub negate-target-requires-clause-high : goal.negate-target-requires-clause-high
negate-target-requires-clause-high c = negatable_high (c.requires.fits c.args.rule.now.last none c.if-last-enforcement.true)

pub negate-target-requires-clause-above : goal.negate-target-requires-clause-above
negate-target-requires-clause-above c = λ _. negatable_above (c.requires.fits c.args.rule.now.last none c.if-last-enforcement.true)

pub negate-target-requires-clause-below : goal.negate-target-requires-clause-below
negate-target-requires-clause-below c = λ _. negatable_below (c.requires.fits c.args.rule.now.last none c.if-last-enforcement.true)

pub infer-requires-clause-subject : goal.infer-requires-clause-subject
infer-requires-clause-subject c = subst (λ (k : ℕ). k < length c.args.store.now.first) (sym c.negate-target.ensures.subject) (c.requires.fits c.args.rule.now.last none c.if-last-enforcement.true).subject

pub returns-clause-infers : goal.returns-clause-infers
returns-clause-infers c = λ body x. Infers-refl _ c.args.store.now

pub returns-clause-refused : goal.returns-clause-refused
returns-clause-refused c = λ is. absurd (not_settled is)
