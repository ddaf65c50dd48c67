-- Runs that are sorted by start and end are apart exactly where each ends by the start of the next.
use Rattle.std.specs.Prelude.{IsPermutation, IsTrue, int_le, ◌||◌}
use Rattle.std.specs.List.{list_all}
use Rattle.std.specs.List.Sorted.{IsSortedBy}
use Rattle.std.specs.Ordering.{int_cmp, is_lt, ordering_then}
use Rattle.std.proofs.Common.{◌≡◌, ◌⊎◌, inl, inr, ℕ, zero, suc, ◌+◌, ◌-◌, ◌<◌, ℤ, pos, ◌<ℤ◌, ◌≤ℤ◌, Bool, true, false, List, length, get_or, refl, subst, arith, Less, Equal}
use Rattle.std.proofs.lemmas.Int.{ints, by_lt_z}
use Rattle.std.proofs.lemmas.Bool.{cases_lt}
use Rattle.std.proofs.lemmas.List.{get_or_default}
use Rattle.cps_model.specs.declared.parts.Run.{Run}
use Rattle.cps_model.specs.Scheduling.{are_apart, IsNoOverlap}
use Rattle.cps_model.proofs.Pairs.{All-from_test, test_from_All}
use Rattle.cps_model.proofs.Permuted.{AllPairs-permuted}
use Rattle.cps_model.proofs.Tests.{or_true}
use Rattle.std.proofs.lemmas.List.Sorted.{All-permutation}
use Rattle.cps_eval.specs.Turns.{is_forward, ComesFirst, AreInTurn}

abbrev pub no_run : Run
no_run = record { start = pos 0; end = pos 0 }

-- what a sort by start and end ensures
abbrev SortedRuns : List Run → Type 0
SortedRuns runs = IsSortedBy (λ x y. is_lt (ordering_then (int_cmp x.start y.start) (int_cmp x.end y.end))) runs

pub in_turn_from_sort : (runs : List Run) → SortedRuns runs → AreInTurn runs
in_turn_from_sort runs h k d l = first (get_or runs k d).start (get_or runs k d).end (get_or runs (k + 1) d).start (get_or runs (k + 1) d).end (h k d (omega arith) l)
  where
    first : (t l u m : ℤ) → is_lt (ordering_then (int_cmp u t) (int_cmp m l)) ≡ false → (t <ℤ u) ⊎ ((t ≡ u) × (l ≤ℤ m))
    first t l u m e = by_lt_z t u (λ p. inl p) (λ p. by_lt_z u t
        (λ q. absurd (let f : int_cmp u t ≡ Less = grind (arith, ints) in let g : is_lt (ordering_then (int_cmp u t) (int_cmp m l)) ≡ true = rw f refl in cc))
        (λ q. inr (
          omega (arith, ints),
          by_lt_z m l
              (λ r. absurd (let f : int_cmp u t ≡ Equal = grind (arith, ints) in let g : int_cmp m l ≡ Less = grind (arith, ints) in let s : is_lt (ordering_then (int_cmp u t) (int_cmp m l)) ≡ true = rw (f, g) refl in cc))
              (λ r. r),
        )))

-- each of the first n runs ends by the start of the next
abbrev pub Follow : List Run → ℕ → Type 0
Follow runs n = (k : ℕ) → k + 1 < n → (get_or runs k no_run).end ≤ℤ (get_or runs (k + 1) no_run).start

forward_at : (runs : List Run) (k : ℕ) → list_all is_forward runs ≡ true → k < length runs → (get_or runs k no_run).start ≤ℤ (get_or runs k no_run).end
forward_at runs k h l = at_most (get_or runs k no_run).start (get_or runs k no_run).end (All-from_test is_forward runs h k no_run l)
  where
    at_most : (x y : ℤ) → int_le x y ≡ true → x ≤ℤ y
    at_most x y e = grind (arith, ints)

follow_far : (runs : List Run) (i n : ℕ) → list_all is_forward runs ≡ true → Follow runs (length runs) → i + 1 + n < length runs → (get_or runs i no_run).end ≤ℤ (get_or runs (i + 1 + n) no_run).start
follow_far runs i zero forward h l = subst (λ (k : ℕ). (get_or runs i no_run).end ≤ℤ (get_or runs k no_run).start) (plus_zero (i + 1)) (h i (omega arith))
  where
    plus_zero : (i : ℕ) → i ≡ i + 0
    plus_zero i = omega arith
follow_far runs i (suc n) forward h l =
    let nearer = follow_far runs i n forward h (omega arith) in
    let on = forward_at runs (i + 1 + n) forward (omega arith) in
    let next = h (i + 1 + n) (omega arith) in
    let e : i + 1 + n + 1 ≡ i + 1 + suc n = omega arith in
    subst (λ (k : ℕ). (get_or runs i no_run).end ≤ℤ (get_or runs k no_run).start) e (omega (arith, ints))

apart_before : (p q : Run) → p.end ≤ℤ q.start → are_apart p q ≡ true
apart_before p q h = let first : int_le p.end q.start ≡ true = grind (arith, ints) in rw first refl

pub apart_from_follow : (runs : List Run) → list_all is_forward runs ≡ true → Follow runs (length runs) → IsNoOverlap runs
apart_from_follow runs forward h i j d l m =
    let far = follow_far runs i (j - (i + 1)) forward h (omega arith) in
    let e : i + 1 + (j - (i + 1)) ≡ j = omega arith in
    let here = subst (λ (k : ℕ). (get_or runs i no_run).end ≤ℤ (get_or runs k no_run).start) e far in
    let test = apart_before (get_or runs i no_run) (get_or runs j no_run) here in
    subst (λ (q : Run). are_apart (get_or runs i d) q ≡ true) (get_or_default runs j no_run d m)
    (subst (λ (p : Run). are_apart p (get_or runs j no_run) ≡ true) (get_or_default runs i no_run d (omega arith)) test)

-- neighbours that are apart follow one another
follows : (p q : Run) → ComesFirst p q → p.start ≤ℤ p.end → q.start ≤ℤ q.end → are_apart p q ≡ true → p.end ≤ℤ q.start
follows p q first on off apart = elim (or_true (int_le p.end q.start) (int_le q.end p.start) apart) [
  | inl h ↦ at_most p.end q.start h
  | inr h ↦ (let back = at_most q.end p.start h in elim first [
    | inl up ↦ omega (arith, ints)
    | inr same ↦ (let e = same.0 in let low = same.1 in omega (arith, ints))
  ])
]
  where
    at_most : (x y : ℤ) → int_le x y ≡ true → x ≤ℤ y
    at_most x y e = grind (arith, ints)

pub overlap_refutes : (runs : List Run) (k : ℕ) → AreInTurn runs → list_all is_forward runs ≡ true → k + 1 < length runs → (get_or runs (k + 1) no_run).start <ℤ (get_or runs k no_run).end → IsNoOverlap runs → ⊥
overlap_refutes runs k order forward l over h =
    let p = get_or runs k no_run in
    let q = get_or runs (k + 1) no_run in
    let on = follows p q (order k no_run l) (forward_at runs k forward (omega arith)) (forward_at runs (k + 1) forward l) (h k (k + 1) no_run (omega arith) l) in
    omega (arith, ints)

-- the order of the runs does not matter
swapped : (a b : Bool) → (a || b) ≡ true → (b || a) ≡ true
swapped true true e = refl
swapped true false e = refl
swapped false true e = refl
swapped false false e = e

pub no_overlap_permuted : (xs ys : List Run) → IsPermutation xs ys → IsNoOverlap xs → IsNoOverlap ys
no_overlap_permuted xs ys moved h = AllPairs-permuted (λ p q. IsTrue (are_apart p q)) (λ p q apart. swapped (int_le p.end q.start) (int_le q.end p.start) apart) xs ys moved h

pub forward_permuted : (xs ys : List Run) → IsPermutation xs ys → list_all is_forward xs ≡ true → list_all is_forward ys ≡ true
forward_permuted xs ys moved h = test_from_All is_forward ys (All-permutation (λ r. is_forward r ≡ true) xs ys moved (All-from_test is_forward xs h))

pub follow_more : (runs : List Run) (n : ℕ) → 0 < n → Follow runs n → (get_or runs (n - 1) no_run).end ≤ℤ (get_or runs n no_run).start → Follow runs (n + 1)
follow_more runs n some h this k l = elim (cases_lt (k + 1) n) [
  | inl before ↦ h k before
  | inr at ↦
      (let e : n ≡ k + 1 = omega arith in
      let f : n - 1 ≡ k = omega arith in
      subst (λ (i : ℕ). (get_or runs k no_run).end ≤ℤ (get_or runs i no_run).start) e (subst (λ (i : ℕ). (get_or runs i no_run).end ≤ℤ (get_or runs n no_run).start) f this))
]
