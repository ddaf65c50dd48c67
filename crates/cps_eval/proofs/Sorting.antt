-- Sorted lists of numbers.
use Rattle.std.specs.Prelude.{Contains, IsSorted, IsTrue, ◌↔◌, is_ok}
use Rattle.std.specs.List.Sorted.{IsStrictlySortedBy, IsBinarySearchResult, IsSearchInRange}
use Rattle.std.specs.Ordering.{int_cmp, int_eq, eq_by_cmp}
use Rattle.std.proofs.Common.{◌≡◌, ℕ, zero, suc, ℤ, pos, ◌<ℤ◌, Bool, true, List, [], ◌∷◌, length, get_or, subst, arith, inl, inr, Less, Equal, Greater, Result, Ok, Err}
use Rattle.std.proofs.lemmas.Int.{ints}
use Rattle.std.proofs.lemmas.Bool.{cases_lt}
use Rattle.std.proofs.lemmas.Cmp.{int_cmp_total}
use Rattle.std.proofs.lemmas.List.Elements.{All-from_recursion}
use Rattle.std.proofs.lemmas.List.Sorted.{searchable_from_sorted}
use Rattle.cps_model.specs.Rising.{IsRising}

less_is : (x y : ℤ) → int_cmp x y ≡ Less → x <ℤ y
less_is x y e = grind (arith, ints)

equal_is_same : (x y : ℤ) → int_cmp x y ≡ Equal → x ≡ y
equal_is_same x y e = grind (arith, ints)

not_less : (x : ℤ) → int_cmp x x ≡ Less → ⊥
not_less x e = grind (arith, ints)

not_greater : (x : ℤ) → int_cmp x x ≡ Greater → ⊥
not_greater x e = grind (arith, ints)

pub rising_from_strict : (ns : List ℤ) → IsStrictlySortedBy int_cmp ns → IsRising ns
unfolding IsStrictlySortedBy
rising_from_strict [] h i j l m = absurd (omega arith)
rising_from_strict (n ∷ ns) h i zero l m = absurd (omega arith)
rising_from_strict (n ∷ ns) h zero (suc j) l m = less_is n (get_or ns j (pos 0)) (All-from_recursion (λ y. int_cmp n y ≡ Less) ns h.0 j (pos 0) (omega arith))
rising_from_strict (n ∷ ns) h (suc i) (suc j) l m = rising_from_strict ns h.1 i j (omega arith) (omega arith)

pub equal_by_cmp : (x y : ℤ) → int_eq x y ≡ eq_by_cmp int_cmp x y
equal_by_cmp x y = grind (arith, ints)

pub equal_is : (x y : ℤ) → int_eq x y ≡ true → x ≡ y
equal_is x y e = grind (arith, ints)

-- what a binary search of a sorted list says
pub listed_by_search : (ns : List ℤ) (x : ℤ) (r : Result ℕ ℕ) (b : Bool) → IsSorted int_cmp ns → b ≡ is_ok r → IsSearchInRange r (length ns) → IsBinarySearchResult (λ y. int_cmp y x) ns r → IsTrue b ↔ Contains ns x
listed_by_search ns x (Ok i) b sorted is bound found =
    (λ _. (i, bound, equal_is_same (get_or ns i x) x (found x)), λ _. is)
listed_by_search ns x (Err i) b sorted is bound found =
    let point = found (searchable_from_sorted int_cmp_total (λ y. y) ns x sorted) in (
      λ t. absurd (no_test t),
      λ h. absurd (elim (cases_lt h.0 i) [
        | inl before ↦ not_less x (subst (λ (y : ℤ). int_cmp y x ≡ Less) h.2 (point.0 h.0 x (omega arith) before))
        | inr after ↦ not_greater x (subst (λ (y : ℤ). int_cmp y x ≡ Greater) h.2 (point.1 h.0 x after h.1))
      ]),
    )
  where
    no_test : IsTrue b → ⊥
    no_test t = cc
