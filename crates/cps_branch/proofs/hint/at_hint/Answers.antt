-- The hint's value where the subject may have it.
use Rattle.std.specs.Prelude.{Option}
use Rattle.std.proofs.Common.{rules, ℕ, ℤ, refl, inl, inr, sym, subst, ◌∙◌, true≢false, FitsSigned, w64, to_z, of_z}
use Rattle.std.proofs.lemmas.Int.{to_z-of_z}
use Rattle.cps_literal.specs.declared.atom.Op.TheVariants.{Eq}
use Rattle.cps_branch.specs.Strategies.{Admits}
use Rattle.cps_branch.specs.Hints.{TakesHinted}
use Rattle.cps_branch.proofs.SelectedAtoms.{undecided_eq}
use Rattle.cps_branch.proofs.hint.at_hint.Goals as goal

pub returns-then-may_have-clause-takes : goal.returns-then-may_have-clause-takes
returns-then-may_have-clause-takes c =
    let v = c.in-Some.value in
    let f : FitsSigned w64 v = search rules in
    subst (λ (o : Option ℤ). TakesHinted o c.args.store.now (record { subject = c.args.subject; op = Eq; value = to_z w64 (of_z w64 v) })) (sym c.in-Some.is)
    (inl (refl, to_z-of_z w64 v f, subst (λ (x : ℤ). Admits c.args.store.now c.args.subject x) (to_z-of_z w64 v f) (c.may_have.ensures.0 c.if-may_have.true)))

pub returns-then-may_have-clause-undecided : goal.returns-then-may_have-clause-undecided
returns-then-may_have-clause-undecided c =
    undecided_eq c.args.store.now c.args.subject (to_z w64 (of_z w64 c.in-Some.value)) c.requires.subject c.requires.open_now (c.may_have.ensures.0 c.if-may_have.true)

pub returns-else-may_have-clause-takes : goal.returns-else-may_have-clause-takes
returns-else-may_have-clause-takes c =
    let v = c.in-Some.value in
    let s = c.args.store.now in
    let f : FitsSigned w64 v = search rules in
    subst (λ (o : Option ℤ). TakesHinted o s c.take_least.result) (sym c.in-Some.is)
    (inr (
      (λ a.
          let at : Admits s c.args.subject v = subst (λ (i : ℕ). Admits s i v) c.take_least.ensures.subject a in
          true≢false (sym (c.may_have.ensures.1 (subst (λ (x : ℤ). Admits s c.args.subject x) (sym (to_z-of_z w64 v f)) at)) ∙ c.if-may_have.false)),
      c.take_least.ensures.least,
    ))
