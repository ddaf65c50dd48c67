-- What a sort by rank and place ensures.
use Rattle.std.specs.Prelude.{IsPermutation, AllPairs}
use Rattle.std.specs.List.Sorted.{IsSortedBy}
use Rattle.std.specs.Ordering.{nat_cmp, is_lt, ordering_then}
use Rattle.std.proofs.Common.{◌≡◌, ◌≢◌, ◌⊎◌, inl, inr, ℕ, zero, suc, ◌+◌, ◌-◌, ◌<◌, ◌≤◌, true, false, List, length, get_or, refl, sym, ◌∙◌, subst, arith, Less, Equal}
use Rattle.std.specs.Cmp.{nat_cmp_is}
use Rattle.std.proofs.lemmas.List.{get_or_default}
use Rattle.cps_model.proofs.Permuted.{AllPairs-permuted}
use Rattle.cps_clauses.specs.declared.forget.Candidate.{Candidate}
use Rattle.cps_clauses.specs.Candidates.{AreSortedCandidates, GoesBefore}
use Rattle.cps_clauses.proofs.Candidates.{no_candidate}

abbrev Sorted : List Candidate → Type 0
Sorted cs = IsSortedBy (λ x y. is_lt (ordering_then (nat_cmp x.rank y.rank) (nat_cmp x.place y.place))) cs

-- of two candidates the first does not go after the second
abbrev NotAfter : ℕ → ℕ → ℕ → ℕ → Type 0
NotAfter r p s q = (r < s) ⊎ ((r ≡ s) × (p ≤ q))

three : (m n : ℕ) → (m < n) ⊎ ((m ≡ n) ⊎ (n < m))
three m n = grind arith

neighbours : (r p s q : ℕ) → is_lt (ordering_then (nat_cmp s r) (nat_cmp q p)) ≡ false → NotAfter r p s q
neighbours r p s q e = elim (three r s) [
  | inl less ↦ inl less
  | inr (inl same) ↦ inr (same, elim (three p q) [ inl l ↦ omega (arith, l) | inr (inl k) ↦ omega (arith, k) | inr (inr more) ↦ absurd (beside (sym same) more) ])
  | inr (inr more) ↦ absurd (later more)
]
  where
    later : s < r → ⊥
    later l = let f : nat_cmp s r ≡ Less = sym (nat_cmp_is s r Less l) in let g : is_lt (ordering_then (nat_cmp s r) (nat_cmp q p)) ≡ true = rw f refl in cc

    beside : s ≡ r → q < p → ⊥
    beside k l = let f : nat_cmp s r ≡ Equal = sym (nat_cmp_is s r Equal k) in let g : nat_cmp q p ≡ Less = sym (nat_cmp_is q p Less l) in let h : is_lt (ordering_then (nat_cmp s r) (nat_cmp q p)) ≡ true = rw (f, g) refl in cc

not_after : (a b c d e f : ℕ) → NotAfter a b c d → NotAfter c d e f → NotAfter a b e f
not_after a b c d e f (inl l) (inl m) = inl (omega (arith, l, m))
not_after a b c d e f (inl l) (inr m) = (let k = m.0 in inl (omega (arith, l, k)))
not_after a b c d e f (inr l) (inl m) = (let k = l.0 in inl (omega (arith, k, m)))
not_after a b c d e f (inr l) (inr m) = (let k = l.1 in let j = m.1 in inr (l.0 ∙ m.0, omega (arith, k, j)))

far : (cs : List Candidate) (i n : ℕ) → Sorted cs → i + n < length cs → NotAfter (get_or cs i no_candidate).rank (get_or cs i no_candidate).place (get_or cs (i + n) no_candidate).rank (get_or cs (i + n) no_candidate).place
far cs i zero h l = subst (λ (k : ℕ). NotAfter (get_or cs i no_candidate).rank (get_or cs i no_candidate).place (get_or cs k no_candidate).rank (get_or cs k no_candidate).place) (plus_zero i) (inr (refl, omega arith))
  where
    plus_zero : (i : ℕ) → i ≡ i + 0
    plus_zero i = omega arith
far cs i (suc n) h l =
    let nearer = far cs i n h (omega (arith, l)) in
    let next = neighbours (get_or cs (i + n) no_candidate).rank (get_or cs (i + n) no_candidate).place (get_or cs (i + n + 1) no_candidate).rank (get_or cs (i + n + 1) no_candidate).place (h (i + n) no_candidate (omega arith) (omega (arith, l))) in
    let e : i + n + 1 ≡ i + suc n = omega arith in
    subst (λ (k : ℕ). NotAfter (get_or cs i no_candidate).rank (get_or cs i no_candidate).place (get_or cs k no_candidate).rank (get_or cs k no_candidate).place) e (not_after _ _ _ _ _ _ nearer next)

-- candidates of different places, once sorted
pub sorted_by_turn : (old new : List Candidate) → IsPermutation old new → Sorted new → AllPairs (λ c d. c.place < d.place) old → AreSortedCandidates old new
sorted_by_turn old new moved h rising = record {
  moved = moved;
  in_turn = λ i j d l m.
      let apart = AllPairs-permuted (λ (c d : Candidate). c.place ≢ d.place) (λ c d ne e. ne (sym e)) old new moved (λ i j d l m e. (let b = rising i j d l m in omega (arith, b, e))) in
      let e : i + (j - i) ≡ j = omega (arith, l) in
      let here = subst (λ (k : ℕ). NotAfter (get_or new i no_candidate).rank (get_or new i no_candidate).place (get_or new k no_candidate).rank (get_or new k no_candidate).place) e (far new i (j - i) h (omega (arith, l, m))) in
      subst (λ (x : Candidate). GoesBefore x (get_or new j d)) (get_or_default new i no_candidate d (omega (arith, l, m)))
      (subst (λ (y : Candidate). GoesBefore (get_or new i no_candidate) y) (get_or_default new j no_candidate d m) (strict (get_or new i no_candidate) (get_or new j no_candidate) (apart i j no_candidate l m) here));
}
  where
    strict : (c d : Candidate) → c.place ≢ d.place → NotAfter c.rank c.place d.rank d.place → GoesBefore c d
    strict c d ne (inl less) = inl less
    strict c d ne (inr same) = (let k = same.1 in inr (same.0, omega (arith, k, ne)))
