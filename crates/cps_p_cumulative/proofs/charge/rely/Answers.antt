-- An atom is seen to be true where the assumed one implies it, and where it was true.
use Rattle.std.proofs.Common.{refl, rules, FitsSigned, w64}
use Rattle.std.proofs.lemmas.Int.{to_z-of_z}
use Rattle.cps_p_cumulative.proofs.Levelled.{no_yes, no_err}
use Rattle.cps_p_cumulative.proofs.NegatableValues.{tested}
use Rattle.cps_p_cumulative.proofs.Relied.{Relies-always, Relies-fact, Relies-implied}
use Rattle.cps_p_cumulative.proofs.charge.rely.Goals as goal

pub returns-then-implies : goal.returns-then-implies
returns-then-implies c = λ ok. Relies-implied c.args.past.now c.args.case.assumed c.args.atom c.args.facts.now.items c.requires.facts (c.implies.ensures.0 c.if-implies.true)

pub returns-then-not-is_inside : goal.returns-then-not-is_inside
returns-then-not-is_inside c = λ ok. no_yes _ _ ok refl

pub truth-requires : goal.truth-requires
truth-requires c = c.requires.subject

pub returns-in_default : goal.returns-in_default
returns-in_default c = λ ok. no_yes _ _ ok refl

pub was_always-requires-clause-subject : goal.was_always-requires-clause-subject
was_always-requires-clause-subject c = c.requires.subject

pub was_always-requires-clause-negatable : goal.was_always-requires-clause-negatable
was_always-requires-clause-negatable c = tested c.args.atom.value (search rules) (c.is_inside.ensures c.if-not-is_inside.false)

pub was_always-requires-clause-true_now : goal.was_always-requires-clause-true_now
was_always-requires-clause-true_now c = c.truth.ensures.yes.0 c.in-Yes.is

pub returns-in_err-push : goal.returns-in_err-push
returns-in_err-push c = λ ok. no_err _ _ _ ok c.from_residual.ensures.0

pub returns-in_ok-push : goal.returns-in_ok-push
returns-in_ok-push c = λ ok.
    let f : FitsSigned w64 c.args.atom.value = search rules in
    let inside = rw (to_z-of_z w64 c.args.atom.value f) at (c.is_inside.ensures c.if-not-is_inside.false) in
    Relies-fact c.args.past.now c.args.case.assumed c.args.atom c.args.facts.now.items c.push.new.self.items c.in_ok-push.ensures.items c.requires.subject inside (c.truth.ensures.yes.0 c.in-Yes.is) c.requires.facts

pub returns-else-not-was_always : goal.returns-else-not-was_always
returns-else-not-was_always c = λ ok. Relies-always c.args.past.now c.args.case.assumed c.args.atom c.args.facts.now.items c.requires.subject c.requires.facts (c.was_always.ensures c.if-not-was_always.false)
