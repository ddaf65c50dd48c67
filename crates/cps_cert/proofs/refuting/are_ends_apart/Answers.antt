-- The ends of the sum and those of the domain are one pair each.
use Rattle.std.proofs.Common.{inl, inr, refl, subst, arith, Bool, ℤ, FitsSigned, w64}
use Rattle.std.proofs.lemmas.Int.{to_z-of_z}
use Rattle.cps_domain.specs.Window.{contains}
use Rattle.cps_log.specs.Boxes.{HasEnds, Spans}
use Rattle.cps_rup.specs.Domains.{box_in}
use Rattle.cps_subjects.proofs.Near.{near_fits}
use Rattle.cps_subjects.proofs.SumEnds.{box_is}
use Rattle.cps_cert.proofs.Pairs.{not_true}
use Rattle.cps_cert.proofs.Outside.{apart_if, apart_only, hull_spans}
use Rattle.cps_cert.proofs.refuting.are_ends_apart.Goals as goal

pub returns-then-stays_below : goal.returns-then-stays_below
returns-then-stays_below c =
    let e = c.args.sum.now in
    let box = box_in c.args.domains.now in
    let low = c.sum_ends-ends.result.low in
    let high = c.sum_ends-ends.result.high in
    let least = c.min-least.result in
    let greatest = c.max-greatest.result in
    let small_high = c.sum_ends-ends.ensures.high in
    let fh : FitsSigned w64 high = near_fits high (omega arith) in
    let fo : FitsSigned w64 e.offset = near_fits e.offset c.requires.near in
    let fm : FitsSigned w64 least = record { sfits = c.min-least.type_inv } in
    let ends : HasEnds box e.vars e.coeffs low high = rw (c.as_slice.ensures, c.as_slice-2.ensures) at c.sum_ends-ends.ensures.ends in
    let d = c.index-domains-subject.result in
    let same = box_is c.args.domains.now c.args.subject c.args.subject d c.requires.subject refl c.index-domains-subject.is in
    let hull : Spans (box c.args.subject) (λ x. x) least greatest = subst (λ (b : ℤ → Bool). Spans b (λ x. x) least greatest) same (hull_spans (contains d) least greatest c.min-least.ensures.within c.max-greatest.ensures.within c.min-least.ensures.least c.max-greatest.ensures.greatest) in
    let said = rw (to_z-of_z w64 high fh, to_z-of_z w64 e.offset fo, to_z-of_z w64 least fm) at c.stays_below.ensures in
    (λ h. apart_if box c.args.subject e low high least greatest ends hull (inl (said.0 h)), λ a. c.if-stays_below.true)

pub returns-else-stays_below : goal.returns-else-stays_below
returns-else-stays_below c =
    let e = c.args.sum.now in
    let box = box_in c.args.domains.now in
    let low = c.sum_ends-ends.result.low in
    let high = c.sum_ends-ends.result.high in
    let least = c.min-least.result in
    let greatest = c.max-greatest.result in
    let small_low = c.sum_ends-ends.ensures.low in
    let small_high = c.sum_ends-ends.ensures.high in
    let fl : FitsSigned w64 low = near_fits low (omega arith) in
    let fh : FitsSigned w64 high = near_fits high (omega arith) in
    let fo : FitsSigned w64 e.offset = near_fits e.offset c.requires.near in
    let fm : FitsSigned w64 least = record { sfits = c.min-least.type_inv } in
    let fg : FitsSigned w64 greatest = record { sfits = c.max-greatest.type_inv } in
    let ends : HasEnds box e.vars e.coeffs low high = rw (c.as_slice.ensures, c.as_slice-2.ensures) at c.sum_ends-ends.ensures.ends in
    let d = c.index-domains-subject.result in
    let same = box_is c.args.domains.now c.args.subject c.args.subject d c.requires.subject refl c.index-domains-subject.is in
    let hull : Spans (box c.args.subject) (λ x. x) least greatest = subst (λ (b : ℤ → Bool). Spans b (λ x. x) least greatest) same (hull_spans (contains d) least greatest c.min-least.ensures.within c.max-greatest.ensures.within c.min-least.ensures.least c.max-greatest.ensures.greatest) in
    let first = rw (to_z-of_z w64 high fh, to_z-of_z w64 e.offset fo, to_z-of_z w64 least fm) at c.stays_below.ensures in
    let said = rw (to_z-of_z w64 low fl, to_z-of_z w64 e.offset fo, to_z-of_z w64 greatest fg) at c.stays_above.ensures in (
      λ h. apart_if box c.args.subject e low high least greatest ends hull (inr (said.0 h)),
      λ a. elim (apart_only box c.args.subject e low high least greatest ends hull a) [
        | inl l ↦ absurd (not_true c.stays_below.result c.if-stays_below.false (first.1 l))
        | inr g ↦ said.1 g
      ],
    )
