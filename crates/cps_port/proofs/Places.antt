-- Sums over lists by place, where one element changes: for rules of shared tables, whose views are such a list.
use Rattle.std.proofs.Common.{◌≡◌, ◌≢◌, ℕ, zero, suc, ◌+◌, ◌≤◌, List, [], ◌∷◌, ◌++◌, set, sym, refl, ap, ◌∙◌, arith}
use mathlib.Core.Option.{some, some-injective, some-ne-none}
use lib.ListN.{get_elem?}
use Rattle.cps_port.specs.Totals.{total}

module _ {A : Type 0} where
  pub here : (l : List A) (i : ℕ) (a b : A) → get_elem? l i ≡ some a → get_elem? (set l i b) i ≡ some b
  here [] i a b e = absurd (some-ne-none a (sym e))
  here (x ∷ xs) zero a b e = refl
  here (x ∷ xs) (suc i) a b e = here xs i a b e

  pub one_there : (l : List A) (i j : ℕ) (a b : A) → i ≡ j → get_elem? l j ≡ some a → get_elem? l i ≡ some b → a ≡ b
  one_there l i j a b same e d = some-injective a b (sym e ∙ (ap (get_elem? l) (sym same) ∙ d))

  pub nothing : (i : ℕ) (a : A) → ¬ (get_elem? {A = A} [] i ≡ some a)
  nothing i a e = some-ne-none a (sym e)

module _ {A : Type 0} (f : A → ℕ) where
  pub total_set : (l : List A) (i : ℕ) (v w : A) → get_elem? l i ≡ some v → total f (set l i w) + f v ≡ total f l + f w
  total_set [] i v w e = absurd (some-ne-none v (sym e))
  total_set (x ∷ xs) zero v w e = let q : f x ≡ f v = ap f (some-injective x v e) in omega arith
  total_set (x ∷ xs) (suc i) v w e = let h = total_set xs i v w e in omega arith

  pub total_snoc : (l : List A) (a : A) → total f (l ++ a ∷ []) ≡ total f l + f a
  total_snoc [] a = omega arith
  total_snoc (x ∷ xs) a = let h = total_snoc xs a in omega arith

  pub total_at : (l : List A) (i : ℕ) (v : A) → get_elem? l i ≡ some v → f v ≤ total f l
  total_at [] i v e = absurd (some-ne-none v (sym e))
  total_at (x ∷ xs) zero v e = let q : f x ≡ f v = ap f (some-injective x v e) in omega arith
  total_at (x ∷ xs) (suc i) v e = let h = total_at xs i v e in omega arith

  pub total_two : (l : List A) (i j : ℕ) (v u : A) → get_elem? l i ≡ some v → get_elem? l j ≡ some u → j ≢ i → f v + f u ≤ total f l
  total_two [] i j v u e d n = absurd (some-ne-none v (sym e))
  total_two (x ∷ xs) zero zero v u e d n = absurd (n refl)
  total_two (x ∷ xs) zero (suc j) v u e d n = let q : f x ≡ f v = ap f (some-injective x v e) in let h = total_at xs j u d in omega arith
  total_two (x ∷ xs) (suc i) zero v u e d n = let q : f x ≡ f u = ap f (some-injective x u d) in let h = total_at xs i v e in omega arith
  total_two (x ∷ xs) (suc i) (suc j) v u e d n = let h = total_two xs i j v u e d (λ q. n (ap suc q)) in omega arith
