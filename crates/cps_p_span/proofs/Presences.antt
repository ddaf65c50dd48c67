-- Which of a span's atoms is not true.
use Rattle.std.specs.Prelude.{IsTrue, ◌↔◌}
use Rattle.std.proofs.lemmas.List.{get_or_default}
use Rattle.std.proofs.Common.{Bool, true, ◌∙◌, subst, ◌≡◌, ◌≢◌, ◌⊎◌, ◌<◌, ◌≤◌, ◌+◌, ℕ, zero, suc, refl, ap, List, false, true≢false, sym, length, get_or, pos, inl, inr, arith}
use Rattle.cps_literal.specs.declared.atom.Atom.{Atom}
use Rattle.cps_literal.specs.declared.atom.Op.TheVariants.{Le}
use Rattle.cps_literal.specs.declared.atom.Truth.{Truth}
use Rattle.cps_literal.specs.declared.atom.Truth.TheVariants.{Yes, No}
use Rattle.cps_trail.specs.Trail.{Trail, IsTrueNow, IsFalseNow}
use Rattle.cps_propagate.specs.Now.{IsKnownNow}
use Rattle.cps_p_span.specs.Spans.{IsPresence}
use Rattle.cps_p_span.proofs.Pairing.{less_or, below_or_same}

abbrev pub no_atom : Atom
no_atom = record { subject = 0; op = Le; value = pos 0 }

-- two places are one, or one of them comes first
same_or : (a b : ℕ) → (a ≡ b) ⊎ ((a < b) ⊎ (b < a))
same_or zero zero = inl refl
same_or zero (suc b) = inr (inl (omega arith))
same_or (suc a) zero = inr (inr (omega arith))
same_or (suc a) (suc b) = elim (same_or a b) [
  | inl e ↦ inl (ap (λ (n : ℕ). suc n) e)
  | inr x ↦ elim x [ inl l ↦ inr (inl (omega arith)) | inr l ↦ inr (inr (omega arith)) ]
]

-- an atom that is not true is the one beside which all others are
pub is_other : (s : Trail) (us : List Atom) (m k : ℕ) → m < length us → ((d : Atom) → m < length us → IsTrueNow s (get_or us m d) → ⊥)
    → ((j : ℕ) (e : Atom) → j < length us → j ≢ k → IsTrueNow s (get_or us j e)) → m ≡ k
is_other s us m k l untrue others = elim (same_or m k) [
  | inl e ↦ e
  | inr x ↦ absurd (untrue no_atom l (others m no_atom l (λ e. elim x [ inl a ↦ absurd (omega arith) | inr b ↦ absurd (omega arith) ])))
]

-- all are true
pub each_true : (s : Trail) (us : List Atom) (m : ℕ) → m ≡ length us → ((k : ℕ) (d : Atom) → 0 ≤ k → k < m → IsTrueNow s (get_or us k d)) → IsPresence s us (record { sure = true; last = length us })
each_true s us m e passed = record {
  sure = λ h k d l. passed k d (omega arith) (omega arith);
  unsure = λ h all. absurd (true≢false h);
  others = λ h k d i apart. absurd (omega arith);
  only = λ k d l unknown rest. absurd (unknown (inl (passed k d (omega arith) (omega arith))));
}

-- all are true but the one at a place
pub but_one : (s : Trail) (us : List Atom) (m n : ℕ) → m < length us → ((d : Atom) → m < length us → IsTrueNow s (get_or us m d) → ⊥) → ((k : ℕ) (d : Atom) → 0 ≤ k → k < m → IsTrueNow s (get_or us k d))
    → ((k : ℕ) (d : Atom) → m + 1 ≤ k → k < n → IsTrueNow s (get_or us k d)) → n ≡ length us → IsPresence s us (record { sure = false; last = m })
but_one s us m n l untrue sooner later e = record {
  sure = λ h. absurd (true≢false (sym h));
  unsure = λ h all. untrue no_atom l (all m no_atom l);
  others = λ h k d i apart. elim (less_or k m apart) [ inl below ↦ sooner k d (omega arith) below | inr above ↦ later k d (omega arith) (omega arith) ];
  only = λ k d i unknown rest. is_other s us m k l untrue rest;
}

-- one is not, and it is false or not the only one
pub not_all : (s : Trail) (us : List Atom) (m : ℕ) → m < length us → ((d : Atom) → m < length us → IsTrueNow s (get_or us m d) → ⊥)
    → ((k : ℕ) (d : Atom) → k < length us → (IsKnownNow s (get_or us k d) → ⊥) → m ≡ k → ((j : ℕ) (e : Atom) → j < length us → j ≢ k → IsTrueNow s (get_or us j e)) → ⊥)
    → IsPresence s us (record { sure = false; last = length us })
not_all s us m l untrue several = record {
  sure = λ h. absurd (true≢false (sym h));
  unsure = λ h all. untrue no_atom l (all m no_atom l);
  others = λ h k d i apart. absurd (omega arith);
  only = λ k d i unknown rest. absurd (several k d i unknown (is_other s us m k l untrue rest) rest);
}

-- it is not the only one where one behind it is not true either
pub not_alone : (s : Trail) (us : List Atom) (m k r : ℕ) → m ≡ k → m + 1 ≤ r → r ≤ length us → ((d : Atom) → r < length us → IsTrueNow s (get_or us r d) → ⊥) → (r ≡ length us → ⊥)
    → ((j : ℕ) (e : Atom) → j < length us → j ≢ k → IsTrueNow s (get_or us j e)) → ⊥
not_alone s us m k r same begins within untrue some rest = elim (same_or r (length us)) [
  | inl e ↦ some e
  | inr x ↦ let l : r < length us = elim x [ inl a ↦ a | inr b ↦ absurd (omega arith) ] in untrue no_atom l (rest r no_atom l (λ e. absurd (omega arith)))
]

-- an atom that was tested and is not open is known
pub not_unknown : (s : Trail) (us : List Atom) (m k : ℕ) (d z : Atom) (v : Truth) (test : Bool) → k < length us → m ≡ k → ((v ≡ Yes) ↔ IsTrueNow s (get_or us m z)) → ((v ≡ No) ↔ IsFalseNow s (get_or us m z))
    → (IsTrue test ↔ ((v ≢ Yes) × (v ≢ No))) → test ≡ false → (IsKnownNow s (get_or us k d) → ⊥) → ⊥
not_unknown s us m k d z v test l same met unmet tells off unknown = true≢false (sym (tells.1 ((λ e. unknown (moved (inl (met.0 e)))), (λ e. unknown (moved (inr (unmet.0 e)))))) ∙ off)
  where
    moved : IsKnownNow s (get_or us m z) → IsKnownNow s (get_or us k d)
    moved h = subst (λ (u : Atom). IsKnownNow s u) (get_or_default us k z d l) (subst (λ (j : ℕ). IsKnownNow s (get_or us j z)) same h)

-- an atom that was tested is true or not, whichever atom stands for one beyond the list
module _ (s : Trail) (us : List Atom) (i : ℕ) (z : Atom) (test : Bool) (within : i < length us) (tells : IsTrue test ↔ IsTrueNow s (get_or us i z)) where
  pub untrue_at : test ≡ false → (d : Atom) → i < length us → IsTrueNow s (get_or us i d) → ⊥
  untrue_at off d l h = true≢false (sym (tells.1 (subst (λ (u : Atom). IsTrueNow s u) (get_or_default us i d z within) h)) ∙ off)

  pub true_more : (from : ℕ) → test ≡ true → ((k : ℕ) (d : Atom) → from ≤ k → k < i → IsTrueNow s (get_or us k d)) → (k : ℕ) (d : Atom) → from ≤ k → k < i + 1 → IsTrueNow s (get_or us k d)
  true_more from on before k d f l = elim (below_or_same k i l) [
    | inl old ↦ before k d f old
    | inr last ↦ subst (λ (j : ℕ). IsTrueNow s (get_or us j d)) (sym last) (subst (λ (u : Atom). IsTrueNow s u) (get_or_default us i z d within) (tells.0 on))
  ]
