-- Terms of which something is so, term by term.
use Rattle.std.specs.Prelude.{◌↔◌, IsTrue}
use Rattle.std.proofs.Common.{◌≡◌, ◌∙◌, ◌⊎◌, inl, inr, ℕ, ◌+◌, ◌<◌, ◌≤◌, Bool, true, false, true≢false, List, length, get_or, ap, sym, subst, arith}
use Rattle.std.proofs.lemmas.List.{get_or_default}
use Rattle.cps_literal.specs.Truth.{meets}
use Rattle.cps_literal.specs.declared.atom.Atom.{Atom}
use Rattle.cps_literal.specs.declared.atom.Truth.{Truth}
use Rattle.cps_literal.specs.declared.atom.Truth.TheVariants.{No, Undecided, Yes}
use Rattle.cps_trail.specs.Trail.{IsFalseNow, IsTrueNow, Trail}
use Rattle.cps_trail.proofs.Falls.{bool_cases}
use Rattle.cps_reform.specs.declared.held.Held.{Held}

earlier_or_last : (i n : ℕ) → i < n + 1 → (i < n) ⊎ (i ≡ n)
earlier_or_last i n l = grind arith

module _ (P : Held → Type 0) (ts : List Held) (n : ℕ) (z : Held) (within : n < length ts) (test : Bool) (tells : IsTrue test ↔ ((1 ≤ (get_or ts n z).weight) × P (get_or ts n z))) where
  -- one term more that weighs nothing, or of which it is not so
  pub passed-more : test ≡ false → ((i : ℕ) (d : Held) → i < n → 1 ≤ (get_or ts i d).weight → P (get_or ts i d) → ⊥)
      → (i : ℕ) (d : Held) → i < n + 1 → 1 ≤ (get_or ts i d).weight → P (get_or ts i d) → ⊥
  passed-more off before i d l weighs holds = elim (earlier_or_last i n l) [
    | inl old ↦ before i d old weighs holds
    | inr last ↦
        let same : get_or ts i d ≡ get_or ts n z = ap (λ (j : ℕ). get_or ts j d) last ∙ get_or_default ts n d z within in
        true≢false (sym (tells.1 (subst (λ (t : Held). 1 ≤ t.weight) same weighs, subst (λ (t : Held). P t) same holds)) ∙ off)
  ]

  -- one that weighs something and of which it is so, whichever term stands for one beyond the list
  pub found-weighs : test ≡ true → (d : Held) → 1 ≤ (get_or ts n d).weight
  found-weighs on d = subst (λ (t : Held). 1 ≤ t.weight) (get_or_default ts n z d within) (tells.0 on).0

  pub found-here : test ≡ true → (d : Held) → P (get_or ts n d)
  found-here on d = subst (λ (t : Held). P t) (get_or_default ts n z d within) (tells.0 on).1

-- an atom is true where it cannot fail to be
pub true-now : (s : Trail) (t : Atom) → ((IsTrueNow s t → ⊥) → ⊥) → IsTrueNow s t
true-now s t h x a = elim (bool_cases (meets t.op t.value x)) [
  | inl met ↦ met
  | inr not ↦ absurd (h (λ all. true≢false (sym (all x a) ∙ not)))
]

yes-not-no : Yes ≡ No → ⊥
yes-not-no h = cc h

undecided-not-no : Undecided ≡ No → ⊥
undecided-not-no h = cc h

-- what is true or undecided is not false
pub not-no : (t : Truth) → (t ≡ Yes) ⊎ (t ≡ Undecided) → t ≡ No → ⊥
not-no t h falls = elim h [
  | inl holds ↦ yes-not-no (sym holds ∙ falls)
  | inr open_now ↦ undecided-not-no (sym open_now ∙ falls)
]
