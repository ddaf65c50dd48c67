-- The share is read, and its bound and the base are within what the domains and the limit leave.
use Rattle.std.proofs.Common.{FitsSigned, rules, arith, ap, inl, inr, of_z, subst, to_z, w64, ◌∙◌, ◌≡◌, ℕ, ℤ, pos, ◌+ℤ◌, ◌≤ℤ◌, ◌<ℤ◌}
use Rattle.std.proofs.lemmas.Int.{to_z-of_z}
use Rattle.cps_reform.specs.Cores.{core_bound, least_weight}
use Rattle.cps_reform.proofs.Words.{is_less, not_less, over-read, read-next, within-read}
use Rattle.cps_reform.proofs.reform.Reform.share.Goals as goal

pub returns-clause-some : goal.returns-clause-some
returns-clause-some c =
    let f = c.args.self.now in
    let bound = c.core_bound-bound.result in
    let one : to_z w64 (of_z w64 (to_z w64 (of_z w64 bound) +ℤ pos 1)) ≡ core_bound f.terms +ℤ pos 1 =
    read-next bound c.core_bound-bound.ensures.small ∙ ap (λ (v : ℤ). v +ℤ pos 1) (c.core_bound-bound.ensures.is ∙ ap core_bound c.terms-2.ensures) in
    let fg : FitsSigned w64 c.greatest_at.result = search rules in
    let greatest = to_z-of_z w64 c.greatest_at.result fg ∙ c.greatest_at.ensures in
    record {
      weight_is = c.least_weight-weight.ensures ∙ ap least_weight c.terms.ensures;
      bound_is = one;
      high = subst (λ (g : ℤ). to_z w64 (of_z w64 (to_z w64 (of_z w64 bound) +ℤ pos 1)) ≤ℤ g) greatest (not_less (to_z w64 (of_z w64 c.greatest_at.result)) (to_z w64 (of_z w64 (to_z w64 (of_z w64 bound) +ℤ pos 1))) c.if-greatest_at-bound.false);
      within = within-read f.base c.args.limit c.base.result c.room.result c.least_weight-weight.result c.base.ensures c.requires.base c.ranges.limit c.room.ensures.is c.if-room-weight.false;
      small = omega (arith, c.if-room-weight.false, c.room.ensures.small);
    }

pub returns-then-greatest_at-bound-clause-none : goal.returns-then-greatest_at-bound-clause-none
returns-then-greatest_at-bound-clause-none c =
    let f = c.args.self.now in
    let bound = c.core_bound-bound.result in
    let one : to_z w64 (of_z w64 (to_z w64 (of_z w64 bound) +ℤ pos 1)) ≡ core_bound f.terms +ℤ pos 1 =
    read-next bound c.core_bound-bound.ensures.small ∙ ap (λ (v : ℤ). v +ℤ pos 1) (c.core_bound-bound.ensures.is ∙ ap core_bound c.terms-2.ensures) in
    let fg : FitsSigned w64 c.greatest_at.result = search rules in
    let greatest = to_z-of_z w64 c.greatest_at.result fg ∙ c.greatest_at.ensures in
    λ _. inl (subst (λ (v : ℤ). v <ℤ (core_bound f.terms +ℤ pos 1)) greatest (subst (λ (v : ℤ). to_z w64 (of_z w64 c.greatest_at.result) <ℤ v) one (is_less (to_z w64 (of_z w64 c.greatest_at.result)) (to_z w64 (of_z w64 (to_z w64 (of_z w64 bound) +ℤ pos 1))) c.if-greatest_at-bound.true)))

pub returns-then-room-weight-clause-none : goal.returns-then-room-weight-clause-none
returns-then-room-weight-clause-none c =
    let f = c.args.self.now in
    let weight : c.least_weight-weight.result ≡ least_weight f.terms = c.least_weight-weight.ensures ∙ ap least_weight c.terms.ensures in
    λ _. inr (subst (λ (n : ℕ). c.args.limit <ℤ (f.base +ℤ pos n)) weight
    (over-read f.base c.args.limit c.base.result c.room.result c.least_weight-weight.result c.base.ensures c.requires.base c.ranges.limit c.room.ensures.is c.if-room-weight.true))
