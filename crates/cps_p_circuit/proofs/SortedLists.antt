-- Sorted lists of numbers.
use Rattle.std.specs.List.Sorted.{IsStrictlySortedBy}
use Rattle.std.specs.Ordering.{int_cmp, int_eq, eq_by_cmp}
use Rattle.std.proofs.Common.{◌≡◌, zero, suc, ℤ, pos, ◌<ℤ◌, true, List, [], ◌∷◌, get_or, arith, Less}
use Rattle.std.proofs.lemmas.Int.{ints}
use Rattle.std.proofs.lemmas.List.Elements.{All-from_recursion}
use Rattle.cps_model.specs.Rising.{IsRising}

less_is : (x y : ℤ) → int_cmp x y ≡ Less → x <ℤ y
less_is x y e = grind (arith, ints)

pub rising_from_strict : (ns : List ℤ) → IsStrictlySortedBy int_cmp ns → IsRising ns
unfolding IsStrictlySortedBy
rising_from_strict [] h i j l m = absurd (omega arith)
rising_from_strict (n ∷ ns) h i zero l m = absurd (omega arith)
rising_from_strict (n ∷ ns) h zero (suc j) l m = less_is n (get_or ns j (pos 0)) (All-from_recursion (λ y. int_cmp n y ≡ Less) ns h.0 j (pos 0) (omega arith))
rising_from_strict (n ∷ ns) h (suc i) (suc j) l m = rising_from_strict ns h.1 i j (omega arith) (omega arith)

pub equal_by_cmp : (x y : ℤ) → int_eq x y ≡ eq_by_cmp int_cmp x y
equal_by_cmp x y = grind (arith, ints)

pub equal_is : (x y : ℤ) → int_eq x y ≡ true → x ≡ y
equal_is x y e = grind (arith, ints)
