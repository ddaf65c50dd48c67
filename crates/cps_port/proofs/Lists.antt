-- Lists in which one element changes, sums and counts over them.
use Rattle.std.proofs.Common.{◌≡◌, ◌≢◌, ℕ, zero, suc, ◌+◌, ◌<◌, ◌==◌, List, [], ◌∷◌, ◌++◌, length, get_or, set, sym, refl, ap, ◌∙◌, subst, arith, get_or-set_same, get_or-set_other}
use Rattle.std.specs.Prelude.{Contains}
use Rattle.std.proofs.lemmas.Bool.Decides.{nat_tests}
use mathlib.Core.Logic.{dite}
use native.Mathlib.Decide.{ℕ_discrete}
use Rattle.cps_port.specs.Totals.{total, one_if, times}

module _ {A : Type 0} where
  -- what holds of the new element, and of each other one, holds of each
  pub at_each : (l : List A) (i : ℕ) (x d : A) (j : ℕ) (P : A → Type 0) → i < length l → (j ≡ i → P x) → (j ≢ i → P (get_or l j d)) → P (get_or (set l i x) j d)
  at_each l i x d j P h here else_ = dite (ℕ_discrete j i) (λ e. subst P (sym (ap (λ (n : ℕ). get_or (set l i x) n d) e ∙ get_or-set_same l i x d h)) (here e))
      (λ n. subst P (sym (get_or-set_other l i j x d n)) (else_ n))

  pub Contains-here : (x : A) (xs : List A) → Contains (x ∷ xs) x
  Contains-here x xs = (0, omega arith, refl)

  pub Contains-later : (y x : A) (xs : List A) → Contains xs x → Contains (y ∷ xs) x
  Contains-later y x xs c = let h = c.1 in (suc c.0, omega arith, c.2)

module _ {A : Type 0} (f : A → ℕ) where
  pub total-set : (l : List A) (i : ℕ) (x d : A) → i < length l → total f (set l i x) + f (get_or l i d) ≡ total f l + f x
  total-set [] i x d h = absurd (omega arith)
  total-set (y ∷ ys) zero x d h = omega arith
  total-set (y ∷ ys) (suc i) x d h = let g = total-set ys i x d (omega arith) in omega arith

  pub total-none : (l : List A) (d : A) → ((i : ℕ) → f (get_or l i d) ≡ 0) → total f l ≡ 0
  total-none [] d h = refl
  total-none (y ∷ ys) d h = let a = h 0 in let b = total-none ys d (λ i. h (suc i)) in omega arith

pub one_if-same : (n : ℕ) → one_if (n == n) ≡ 1
one_if-same n = grind (arith, nat_tests)

pub one_if-other : (m n : ℕ) → m ≢ n → one_if (m == n) ≡ 0
one_if-other m n h = grind (arith, nat_tests)

module _ {A : Type 0} (number : A → ℕ) (n : ℕ) where
  pub times-append : (a b : List A) → times number n (a ++ b) ≡ times number n a + times number n b
  times-append [] b = omega arith
  times-append (x ∷ xs) b = let h = times-append xs b in omega arith

  pub times-none : (l : List A) → ((x : A) → Contains l x → number x ≢ n) → times number n l ≡ 0
  times-none [] h = refl
  times-none (x ∷ xs) h = let a = one_if-other (number x) n (h x (Contains-here x xs)) in let b = times-none xs (λ y c. h y (Contains-later x y xs c)) in omega arith
