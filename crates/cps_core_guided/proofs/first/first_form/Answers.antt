-- The form of the terms so far stands where the subject of the next one is held.
use Rattle.std.proofs.Common.{rules, ◌≡◌, ◌∙◌, ◌<◌, ◌*◌, ◌+◌, ◌^◌, ℕ, ℤ, pos, ◌+ℤ◌, ◌*ℤ◌, List, ap, arith, get_or, length, map, subst, sym, unsigned_abs, w64, FitsSigned}
use Rattle.std.proofs.lemmas.Int.{to_z-of_z}
use Rattle.std.proofs.lemmas.List.{get_or_default}
use Rattle.cps_domain.specs.Window.{intervals}
use Rattle.cps_literal.specs.Truth.{value_at}
use Rattle.cps_instance.specs.declared.term.Term.{Term}
use Rattle.cps_instance.specs.Problem.{Problem}
use Rattle.cps_instance.specs.Terms.{domain_at, magnitude}
use Rattle.cps_reform.specs.Forms.{form_value, held_reach, with_held}
use Rattle.cps_core_guided.proofs.FirstForms.{all-held, form-more, form-none, form-stays, grew-at-most, next-base, next-ordered, next-room, next-roomy, next-within}
use Rattle.cps_core_guided.proofs.first.first_form.Goals as goal

abbrev none : Term
none = record { coeff = pos 0; subject = 0 }

pub loop-term-init : goal.loop-term-init
loop-term-init g c =
    form-none c.args.frame.now c.args.terms.now c.new-reform.result c.requires.sound c.requires.bottom c.requires.small c.new-reform.ensures.base (c.new-reform.ensures.terms ∙ c.new.ensures.items)

pub hold-requires-clause-roomy : goal.hold-requires-clause-roomy
hold-requires-clause-roomy g c =
    let u = c.held_subject.new.frame in
    let ts = c.args.terms.now in
    let k = c.loop-term.term-index in
    let same : map intervals c.domains.result.now ≡ u.instance.domains = c.domains.ensures.list ∙ ap (λ (p : Problem). p.domains) c.instance.ensures in
    next-roomy u.instance (map intervals c.domains.result.now) _ c.loop-term.reform same
    (form-stays (get_or ts k none).subject c.args.frame.now c.loop-term.frame u ts k c.loop-term.reform c.in_ok-subject.subject c.requires.subjects c.loop-term.invariant c.in_ok-subject.ensures.grew)

pub hold-requires-clause-ordered : goal.hold-requires-clause-ordered
hold-requires-clause-ordered g c =
    let u = c.held_subject.new.frame in
    let same : map intervals c.domains.result.now ≡ u.instance.domains = c.domains.ensures.list ∙ ap (λ (p : Problem). p.domains) c.instance.ensures in
    next-ordered u.instance (map intervals c.domains.result.now) c.in_ok-subject.subject (get_or c.args.terms.now c.loop-term.term-index none) same c.in_ok-subject.ensures.sound.instance c.in_ok-subject.ensures.holds

pub hold-requires-clause-within : goal.hold-requires-clause-within
hold-requires-clause-within g c =
    let u = c.held_subject.new.frame in
    let same : map intervals c.domains.result.now ≡ u.instance.domains = c.domains.ensures.list ∙ ap (λ (p : Problem). p.domains) c.instance.ensures in
    next-within u.instance (map intervals c.domains.result.now) c.in_ok-subject.subject (get_or c.args.terms.now c.loop-term.term-index none) same c.in_ok-subject.ensures.sound.instance c.in_ok-subject.ensures.holds

pub hold-requires-clause-small : goal.hold-requires-clause-small
hold-requires-clause-small g c =
    let u = c.held_subject.new.frame in
    let ts = c.args.terms.now in
    let k = c.loop-term.term-index in
    let v = get_or ts k none in
    let ds = map intervals c.domains.result.now in
    let same : ds ≡ u.instance.domains = c.domains.ensures.list ∙ ap (λ (p : Problem). p.domains) c.instance.ensures in
    let fits : FitsSigned w64 v.coeff = search rules in
    let size : c.unsigned_abs.result ≡ unsigned_abs v.coeff = simp to_z-of_z at c.unsigned_abs.ensures.value in
    subst (λ (n : ℕ). held_reach ds c.loop-term.reform.terms + n * magnitude (domain_at ds c.in_ok-subject.subject) < 2 ^ 62) (sym size)
    (next-room v.subject c.args.frame.now c.loop-term.frame u ds ts k c.loop-term.reform v c.in_ok-subject.subject c.requires.subjects c.loop-term.invariant c.in_ok-subject.ensures.grew same c.loop-term-test.true (get_or_default ts k none v c.loop-term-test.true) c.in_ok-subject.ensures.holds)

pub hold-requires-clause-base : goal.hold-requires-clause-base
hold-requires-clause-base g c =
    let u = c.held_subject.new.frame in
    let ts = c.args.terms.now in
    let k = c.loop-term.term-index in
    let same : map intervals c.domains.result.now ≡ u.instance.domains = c.domains.ensures.list ∙ ap (λ (p : Problem). p.domains) c.instance.ensures in
    next-base u.instance (map intervals c.domains.result.now) _ c.loop-term.reform same
    (form-stays (get_or ts k none).subject c.args.frame.now c.loop-term.frame u ts k c.loop-term.reform c.in_ok-subject.subject c.requires.subjects c.loop-term.invariant c.in_ok-subject.ensures.grew)

pub loop-term-preserved : goal.loop-term-preserved
loop-term-preserved g c =
    let u = c.held_subject.new.frame in
    let ts = c.args.terms.now in
    let k = c.loop-term.term-index in
    let v = get_or ts k none in
    let f = c.loop-term.reform in
    let h = c.hold.new.self in
    let j = c.in_ok-subject.subject in
    let ds = map intervals c.domains.result.now in
    let same : ds ≡ u.instance.domains = c.domains.ensures.list ∙ ap (λ (p : Problem). p.domains) c.instance.ensures in
    let fits : FitsSigned w64 v.coeff = search rules in
    let size : c.unsigned_abs.result ≡ unsigned_abs v.coeff = simp to_z-of_z at c.unsigned_abs.ensures.value in
    form-more v.subject c.args.frame.now c.loop-term.frame u ds ts k f h v j c.requires.subjects c.loop-term.invariant c.in_ok-subject.ensures.grew c.in_ok-subject.ensures.sound same c.loop-term-test.true (get_or_default ts k none v c.loop-term-test.true) c.in_ok-subject.ensures.holds
    (subst (λ (n : ℕ). h ≡ with_held ds f n j) size c.in_ok-hold.ensures.holds) c.in_ok-hold.ensures.roomy c.in_ok-hold.ensures.base
    (subst (λ (n : ℕ). (xs : List ℤ) → form_value xs h ≡ form_value xs f +ℤ pos n *ℤ value_at xs j) size c.in_ok-hold.ensures.worth)

pub hold-requires-clause-subject : goal.hold-requires-clause-subject
hold-requires-clause-subject g c =
    let size : length c.domains.result.now ≡ length c.held_subject.new.frame.instance.domains = c.domains.ensures.count ∙ ap (λ (p : Problem). length p.domains) c.instance.ensures in
    let within = c.in_ok-subject.ensures.holds.within in
    omega (arith, size, within)

pub returns-clause-first : goal.returns-clause-first
returns-clause-first g c = (all-held c.args.frame.now c.loop-term.frame c.args.terms.now c.loop-term.term-index c.loop-term.reform (omega (arith, c.loop-term-test.false)) c.loop-term.invariant).first

pub returns-clause-grew : goal.returns-clause-grew
returns-clause-grew g c = grew-at-most c.args.frame.now c.loop-term.frame c.loop-term.term-index (length c.args.terms.now) (omega arith) c.loop-term.invariant.grew
