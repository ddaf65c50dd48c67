-- A bound that was true, or that the atom lies in the interval itself, gives the atom beside it.
use Rattle.std.proofs.Common.{◌≡◌, ◌<◌, ◌∙◌, length, inl, inr, refl, sym, subst, true≢false, rules, FitsSigned, w64}
use Rattle.cps_literal.specs.declared.atom.Atom.{Atom}
use Rattle.cps_literal.specs.declared.atom.Op.TheVariants.{Ne}
use Rattle.cps_trail.specs.Trail.{IsTrueNow}
use Rattle.cps_p_alldiff.proofs.NumberTests.{read_at_most}
use Rattle.cps_p_alldiff.proofs.BarAtoms.{near_by, near_itself}
use Rattle.cps_p_alldiff.proofs.facts.add_near.Goals as goal

pub returns-clause-yes : goal.returns-clause-yes
returns-clause-yes c yes' =
    let bound = c.in-Some.ensures.some in
    near_by c.args.past.now c.args.target c.in-Some.near c.args.hall.now c.args.facts.now.items c.push.new.self.items bound (c.truth.ensures.yes.0 (c.is_yes.ensures.0 c.if-not-is_yes.false))
    (subst (λ i. i < length c.args.past.now.first) (sym bound.subject) c.requires.subject) c.in_ok-push.ensures.items

pub returns-then-hall-target-clause-yes : goal.returns-then-hall-target-clause-yes
returns-then-hall-target-clause-yes c =
    let h = c.args.hall.now in
    let t = c.args.target in
    let fl : FitsSigned w64 h.low = search rules in
    let fh : FitsSigned w64 h.high = search rules in
    let ft : FitsSigned w64 t.value = search rules in
    let is-ne : t.op ≡ Ne = search rules in
    λ e. near_itself c.args.past.now t h c.args.facts.now.items c.args.facts.now.items is-ne (read_at_most h.low t.value fl ft c.if-hall-target.true) (read_at_most t.value h.high ft fh e) refl

pub returns-then-not-is_yes-clause-no : goal.returns-then-not-is_yes-clause-no
returns-then-not-is_yes-clause-no c e beside =
    let s = c.args.past.now in
    let not-ne : c.args.target.op ≡ Ne → ⊥ = search rules in
    elim beside [
      | inl taken ↦ not-ne taken.0
      | inr past ↦ true≢false (sym (c.is_yes.ensures.1 (c.truth.ensures.yes.1 (subst (λ (u : Atom). IsTrueNow s u) (sym c.in-Some.ensures.is) past.1))) ∙ c.if-not-is_yes.true)
    ]
