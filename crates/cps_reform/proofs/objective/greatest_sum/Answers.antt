-- The sum so far and the next term are within what the domains leave.
use Rattle.std.proofs.Common.{pos, ◌*◌, ◌<◌, ◌^◌, ◌+ℤ◌, ◌∙◌, ap, get_or, map, refl, rules, subst, sym, to_z, unsigned_abs, w64, FitsSigned}
use Rattle.std.proofs.lemmas.Int.{to_z-of_z}
use Rattle.cps_domain.specs.Window.{intervals}
use Rattle.cps_instance.specs.declared.term.Term.{Term}
use Rattle.cps_instance.specs.Terms.{Intervals, magnitude}
use Rattle.cps_instance.proofs.Boundings.{fits_small, high_end}
use Rattle.cps_reform.proofs.Objectives.{greatest-more, part-room, reads, sum-room}
use Rattle.cps_reform.proofs.objective.greatest_sum.Goals as goal

abbrev none : Term
none = record { coeff = pos 0; subject = 0 }

pub overflow_add-sum : goal.overflow_add-sum
overflow_add-sum c =
    let ws = c.args.domains.now in
    let ds = map intervals ws in
    let ts = c.args.terms.now in
    let k = c.loop-term.term-index in
    let t = get_or ts k none in
    let part = c.greatest_part-sum.result in
    let fp : FitsSigned w64 part = search rules in
    let ft : FitsSigned w64 t.coeff = search rules in
    let r = reads ws ts k t none c.index-domains-term.result c.loop-term-test.true refl c.requires.subjects c.index-domains-term.is in
    let is = simp to_z-of_z at c.greatest_part-sum.ensures in
    rw (to_z-of_z w64 part fp) (fits_small (to_z w64 c.loop-term.sum-bits +ℤ part) (sum-room ds ts k (to_z w64 c.loop-term.sum-bits) part t c.requires.small c.loop-term.invariant c.loop-term-test.true r.term (is ∙ ap (λ (d : Intervals). high_end t d) r.domain)))

pub loop-term-preserved : goal.loop-term-preserved
loop-term-preserved c =
    let ws = c.args.domains.now in
    let ds = map intervals ws in
    let ts = c.args.terms.now in
    let k = c.loop-term.term-index in
    let t = get_or ts k none in
    let part = c.greatest_part-sum.result in
    let fp : FitsSigned w64 part = search rules in
    let ft : FitsSigned w64 t.coeff = search rules in
    let r = reads ws ts k t none c.index-domains-term.result c.loop-term-test.true refl c.requires.subjects c.index-domains-term.is in
    let is = simp to_z-of_z at c.greatest_part-sum.ensures in
    let high = is ∙ ap (λ (d : Intervals). high_end t d) r.domain in
    let fits = fits_small (to_z w64 c.loop-term.sum-bits +ℤ part) (sum-room ds ts k (to_z w64 c.loop-term.sum-bits) part t c.requires.small c.loop-term.invariant c.loop-term-test.true r.term high) in
    greatest-more ds ts k (to_z w64 c.loop-term.sum-bits) _ part t c.loop-term.invariant c.loop-term-test.true r.term high
    (rw (to_z-of_z w64 part fp) (to_z-of_z w64 (to_z w64 c.loop-term.sum-bits +ℤ part) fits))

pub greatest_part-sum-requires : goal.greatest_part-sum-requires
greatest_part-sum-requires c =
    let ws = c.args.domains.now in
    let ds = map intervals ws in
    let ts = c.args.terms.now in
    let k = c.loop-term.term-index in
    let t = get_or ts k none in
    let ft : FitsSigned w64 t.coeff = search rules in
    let r = reads ws ts k t none c.index-domains-term.result c.loop-term-test.true refl c.requires.subjects c.index-domains-term.is in
    simp to_z-of_z (subst (λ (d : Intervals). unsigned_abs t.coeff * magnitude d < 2 ^ 62) (sym r.domain) (part-room ds ts k _ t c.requires.small c.loop-term.invariant c.loop-term-test.true r.term))
