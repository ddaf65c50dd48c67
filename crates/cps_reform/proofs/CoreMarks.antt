-- How the terms of a core are marked one after another.
use Rattle.std.proofs.Common.{◌≡◌, ◌≢◌, ◌⊎◌, ◌↔◌, inl, inr, ℕ, ◌+◌, ◌<◌, ◌≤◌, Bool, true, List, length, set, get_or-set_same, get_or-set_other, length-set, sym, ◌∙◌, ap, subst, arith}
use Rattle.std.specs.List.{Contains}
use Rattle.cps_literal.specs.declared.atom.Atom.{Atom}
use Rattle.cps_reform.specs.declared.held.Held.{Held}
use Rattle.cps_reform.specs.Forms.{no_term, term_at}
use Rattle.cps_reform.specs.Marks.{IsTermInCore, assumed}

-- the first terms are marked, and the others have the marks that they had
pub record MarkedUpTo (ts us : List Held) (place : ℕ) (decisions : List Atom) (count : ℕ) : Type 0 where
  pub same_length : length us ≡ length ts
  pub same : (i : ℕ) → i < length ts → record (term_at us i) { in_core = (term_at ts i).in_core } ≡ term_at ts i
  pub core : (i : ℕ) → i < count → ((term_at us i).in_core ≡ true) ↔ IsTermInCore ts place decisions i

equal_or_not : (k i : ℕ) → (k ≡ i) ⊎ (k ≢ i)
equal_or_not k i = grind arith

module _ (ts us : List Held) (place : ℕ) (decisions : List Atom) (i : ℕ) (b : Bool) (m : MarkedUpTo ts us place decisions i) (l : i < length ts)
    (h : (b ≡ true) ↔ ((1 ≤ (term_at us i).weight) × ((i ≡ place) ⊎ Contains decisions (assumed (term_at us i))))) where
  changed : Held
  changed = record (term_at us i) { in_core = b }

  inside : i < length us
  inside = let e = m.same_length in omega (arith, l, e)

  at_place : term_at (set us i (record (term_at us i) { in_core = b })) i ≡ record (term_at us i) { in_core = b }
  at_place = get_or-set_same us i (record (term_at us i) { in_core = b }) no_term inside

  elsewhere : (k : ℕ) → k ≢ i → term_at (set us i (record (term_at us i) { in_core = b })) k ≡ term_at us k
  elsewhere k ne = rw get_or-set_other

  same_weight : (term_at us i).weight ≡ (term_at ts i).weight
  same_weight = ap (λ (t : Held). t.weight) (m.same i l)

  same_assumed : assumed (term_at us i) ≡ assumed (term_at ts i)
  same_assumed = ap (λ (t : Held). assumed t) (m.same i l)

  core_here : ((term_at (set us i (record (term_at us i) { in_core = b })) i).in_core ≡ true) ↔ IsTermInCore ts place decisions i
  core_here = (
    λ is.
        let a = h.0 (sym (ap (λ (t : Held). t.in_core) at_place) ∙ is) in
        let w = a.0 in
        let e = same_weight in
        record {
          weighs = omega (arith, w, e);
          led_to = elim a.1 as (λ u. (i ≡ place) ⊎ Contains decisions (assumed (term_at ts i))) [
            | inl same ↦ inl same
            | inr has ↦ inr (subst (λ (t : Atom). Contains decisions t) same_assumed has)
          ];
        },
    λ is.
        let w = is.weighs in
        let e = same_weight in
        ap (λ (t : Held). t.in_core) at_place
        ∙ h.1 (
          omega (arith, w, e),
          elim is.led_to as (λ u. (i ≡ place) ⊎ Contains decisions (assumed (term_at us i))) [
            | inl same ↦ inl same
            | inr has ↦ inr (subst (λ (t : Atom). Contains decisions t) (sym same_assumed) has)
          ],
        ),
  )

  pub marked-more : MarkedUpTo ts (set us i (record (term_at us i) { in_core = b })) place decisions (i + 1)
  marked-more = record {
    same_length = length-set us i (record (term_at us i) { in_core = b }) ∙ m.same_length;
    same = λ k within. elim (equal_or_not k i) [
      | inl e ↦
          subst (λ (j : ℕ). record (term_at (set us i (record (term_at us i) { in_core = b })) j) { in_core = (term_at ts j).in_core } ≡ term_at ts j) (sym e)
          (ap (λ (t : Held). record t { in_core = (term_at ts i).in_core }) at_place ∙ m.same i l)
      | inr ne ↦ ap (λ (t : Held). record t { in_core = (term_at ts k).in_core }) (elsewhere k ne) ∙ m.same k within
    ];
    core = λ k within. elim (equal_or_not k i) [
      | inl e ↦ subst (λ (j : ℕ). ((term_at (set us i (record (term_at us i) { in_core = b })) j).in_core ≡ true) ↔ IsTermInCore ts place decisions j) (sym e) core_here
      | inr ne ↦ subst (λ (t : Held). (t.in_core ≡ true) ↔ IsTermInCore ts place decisions k) (sym (elsewhere k ne)) (m.core k (omega (arith, within, ne)))
    ];
  }
