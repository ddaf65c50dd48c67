-- Sorted lists of numbers.
use Rattle.std.specs.Prelude.{Contains, IsSorted}
use Rattle.std.specs.List.Sorted.{IsStrictlySortedBy, IsNonDecreasingBy, IsPartitionPoint}
use Rattle.std.specs.Ordering.{int_cmp, int_eq, is_lt, eq_by_cmp, ordering_index}
use Rattle.std.proofs.Common.{◌≡◌, ℕ, zero, suc, ◌+◌, ◌<◌, ℤ, pos, ◌<ℤ◌, true, false, List, [], ◌∷◌, length, get_or, sym, subst, arith, inl, inr, Less, Equal, Greater}
use Rattle.std.proofs.lemmas.Int.{ints}
use Rattle.std.proofs.lemmas.Bool.{cases_lt}
use Rattle.std.proofs.lemmas.Cmp.{int_cmp_total}
use Rattle.std.proofs.lemmas.List.{get_or_default}
use Rattle.std.proofs.lemmas.List.Elements.{All-from_recursion}
use Rattle.std.proofs.lemmas.List.Sorted.{searchable_from_sorted}
use Rattle.cps_p_sequence.specs.Networks.{state_at}
use Rattle.cps_model.specs.Rising.{IsRising}

less_is : (x y : ℤ) → int_cmp x y ≡ Less → x <ℤ y
less_is x y e = grind (arith, ints)

pub equal_is_same : (x y : ℤ) → int_cmp x y ≡ Equal → x ≡ y
equal_is_same x y e = grind (arith, ints)

not_less : (x : ℤ) → int_cmp x x ≡ Less → ⊥
not_less x e = grind (arith, ints)

not_greater : (x : ℤ) → int_cmp x x ≡ Greater → ⊥
not_greater x e = grind (arith, ints)

not_under : (x y : ℤ) → x <ℤ y → is_lt (int_cmp y x) ≡ false
not_under x y h = grind (arith, ints)

pub rising_from_strict : (ns : List ℤ) → IsStrictlySortedBy int_cmp ns → IsRising ns
unfolding IsStrictlySortedBy
rising_from_strict [] h i j l m = absurd (omega arith)
rising_from_strict (n ∷ ns) h i zero l m = absurd (omega arith)
rising_from_strict (n ∷ ns) h zero (suc j) l m = less_is n (get_or ns j (pos 0)) (All-from_recursion (λ y. int_cmp n y ≡ Less) ns h.0 j (pos 0) (omega arith))
rising_from_strict (n ∷ ns) h (suc i) (suc j) l m = rising_from_strict ns h.1 i j (omega arith) (omega arith)

pub equal_by_cmp : (x y : ℤ) → int_eq x y ≡ eq_by_cmp int_cmp x y
equal_by_cmp x y = grind (arith, ints)

pub equal_is : (x y : ℤ) → int_eq x y ≡ true → x ≡ y
equal_is x y e = grind (arith, ints)

sorted_from_rising : (ns : List ℤ) → IsRising ns → IsSorted int_cmp ns
sorted_from_rising ns h k d low l =
    subst (λ (x : ℤ). is_lt (int_cmp (get_or ns (k + 1) d) x) ≡ false) (get_or_default ns k (pos 0) d (omega arith))
    (subst (λ (y : ℤ). is_lt (int_cmp y (get_or ns k (pos 0))) ≡ false) (get_or_default ns (k + 1) (pos 0) d l) (not_under (get_or ns k (pos 0)) (get_or ns (k + 1) (pos 0)) (h k (k + 1) (omega arith) l)))

-- what a binary search that fails says
pub none_found : (ns : List ℤ) (x : ℤ) (i : ℕ) → IsRising ns
    → (IsNonDecreasingBy (λ y. ordering_index (int_cmp y x)) ns → IsPartitionPoint (λ y. int_cmp y x ≡ Less) (λ y. int_cmp y x ≡ Greater) ns i)
    → Contains ns x → ⊥
none_found ns x i rising found h =
    let point = found (searchable_from_sorted int_cmp_total (λ y. y) ns x (sorted_from_rising ns rising)) in
    elim (cases_lt h.0 i) [
      | inl before ↦ not_less x (subst (λ (y : ℤ). int_cmp y x ≡ Less) h.2 (point.0 h.0 x (omega arith) before))
      | inr after ↦ not_greater x (subst (λ (y : ℤ). int_cmp y x ≡ Greater) h.2 (point.1 h.0 x after h.1))
    ]

-- the numbers of a rising list differ
pub rising_differ : (ns : List ℤ) → IsRising ns → (i j : ℕ) → i < length ns → j < length ns → state_at ns i ≡ state_at ns j → i ≡ j
rising_differ ns h i j l m e = elim (cases_lt i j) [
  | inl p ↦ absurd (apart (state_at ns i) (state_at ns j) e (h i j p m))
  | inr p ↦ elim (cases_lt j i) [
    | inl q ↦ absurd (apart (state_at ns j) (state_at ns i) (sym e) (h j i q l))
    | inr q ↦ omega arith
  ]
]
  where
    apart : (x y : ℤ) → x ≡ y → x <ℤ y → ⊥
    apart x y e l = omega (arith, ints)
