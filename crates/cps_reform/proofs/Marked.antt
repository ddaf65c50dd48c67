-- What a form keeps when its core is marked: it is worth the same, and has the same bounds.
use Rattle.std.proofs.Common.{◌≡◌, ℕ, suc, ◌+◌, ◌*◌, ◌<◌, List, [], ◌∷◌, length, refl, sym, ◌∙◌, ap, subst, arith, ℤ, pos, ◌+ℤ◌, ◌-ℤ◌, ◌*ℤ◌, ◌≤ℤ◌}
use Rattle.std.proofs.lemmas.List.{get_or_default}
use Rattle.cps_literal.specs.declared.atom.Atom.{Atom}
use Rattle.cps_literal.specs.Truth.{value_at}
use Rattle.cps_instance.specs.Terms.{Domains, domain_at, magnitude}
use Rattle.cps_reform.specs.declared.held.Held.{Held}
use Rattle.cps_reform.specs.Forms.{Form, IsAbove, IsHeldInDomain, FitsTypes, excess, form_value, held_reach, no_term, term_at}
use Rattle.cps_reform.specs.Marks.{IsCoreMarked}

-- terms that differ in their marks alone
abbrev pub AreAlike : List Held → List Held → Type 0
AreAlike ts us = (i : ℕ) → i < length ts → record (term_at us i) { in_core = (term_at ts i).in_core } ≡ term_at ts i

excess-alike : (xs : List ℤ) (ts us : List Held) → length us ≡ length ts → AreAlike ts us → excess xs us ≡ excess xs ts
excess-alike xs [] [] e h = refl
excess-alike xs [] (u ∷ us) e h = absurd (omega (arith, e))
excess-alike xs (t ∷ ts) [] e h = absurd (omega (arith, e))
excess-alike xs (t ∷ ts) (u ∷ us) e h =
    let here : record u { in_core = t.in_core } ≡ t = h 0 (omega arith) in
    let rest = excess-alike xs ts us (omega (arith, e)) (λ i l. h (suc i) (omega (arith, l))) in
    ap (λ (v : Held). pos v.weight *ℤ (value_at xs v.subject -ℤ v.bound) +ℤ excess xs us) here
    ∙ ap (λ (v : ℤ). pos t.weight *ℤ (value_at xs t.subject -ℤ t.bound) +ℤ v) rest

reach-alike : (ds : Domains) (ts us : List Held) → length us ≡ length ts → AreAlike ts us → held_reach ds us ≡ held_reach ds ts
reach-alike ds [] [] e h = refl
reach-alike ds [] (u ∷ us) e h = absurd (omega (arith, e))
reach-alike ds (t ∷ ts) [] e h = absurd (omega (arith, e))
reach-alike ds (t ∷ ts) (u ∷ us) e h =
    let here : record u { in_core = t.in_core } ≡ t = h 0 (omega arith) in
    let rest = reach-alike ds ts us (omega (arith, e)) (λ i l. h (suc i) (omega (arith, l))) in
    ap (λ (v : Held). v.weight * magnitude (domain_at ds v.subject) + held_reach ds us) here
    ∙ ap (λ (n : ℕ). t.weight * magnitude (domain_at ds t.subject) + n) rest

module _ (f g : Form) (place : ℕ) (decisions : List Atom) (m : IsCoreMarked f g place decisions) where
  pub worth-marked : (xs : List ℤ) → form_value xs g ≡ form_value xs f
  worth-marked xs = ap (λ (b : ℤ). b +ℤ excess xs g.terms) m.base ∙ ap (λ (e : ℤ). f.base +ℤ e) (excess-alike xs f.terms g.terms m.terms.same_length m.terms.same)

  pub above-marked : (xs : List ℤ) → IsAbove xs f.terms → IsAbove xs g.terms
  above-marked xs h k d l =
      let n = m.terms.same_length in
      let l' : k < length f.terms = omega (arith, n, l) in
      subst (λ (t : Held). t.bound ≤ℤ value_at xs t.subject) (sym (get_or_default g.terms k d no_term l))
      (subst (λ (t : Held). t.bound ≤ℤ value_at xs t.subject) (sym (m.terms.same k l')) (h k no_term l'))

  pub roomy-marked : (ds : Domains) → FitsTypes ds f → FitsTypes ds g
  roomy-marked ds h = record {
    terms = λ k d l.
        let n = m.terms.same_length in
        let l' : k < length f.terms = omega (arith, n, l) in
        let was = subst (λ (t : Held). IsHeldInDomain ds t) (sym (m.terms.same k l')) (h.terms k no_term l') in
        subst (λ (t : Held). IsHeldInDomain ds t) (sym (get_or_default g.terms k d no_term l)) (record { subject = was.subject; low = was.low; high = was.high; small = was.small });
    small = let e = reach-alike ds f.terms g.terms m.terms.same_length m.terms.same in let s = h.small in omega (arith, e, s);
  }
