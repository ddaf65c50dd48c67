-- Lists, counts and the places of words.
use Rattle.std.proofs.Common.{◌≡◌, ◌≢◌, ℕ, zero, suc, ◌+◌, ◌*◌, ◌<◌, ◌≤◌, ◌==◌, nat_lt, Bool, true, false, ◌⊎◌, List, [], ◌∷◌, ◌++◌, length, get_or, set, max, replicate, sym, refl, ap, ◌∙◌, ⊎_elim, inl, inr, arith, get_or-set_other}
use Rattle.std.proofs.lemmas.Bool.Decides.{nat_tests}
use mathlib.Core.Logic.{dite}
use mathlib.Core.Option.{some, some-injective, some-ne-none}
use native.Mathlib.Decide.{dec_le, ℕ_discrete}
use lib.ListN.{get_elem?}
use Rattle.cps_port.specs.Totals.{total, one_if}
use Rattle.cps_port.proofs.Lists.{one_if-same, one_if-other}
use Rattle.cps_board.specs.Rows.{row_words, data_words, flag, datum, longer}

module _ {A : Type 0} where
  pub at_below : (l : List A) (i : ℕ) → i < length l → (a : A) × (get_elem? l i ≡ some a)
  at_below [] i h = absurd (omega arith)
  at_below (x ∷ xs) zero h = (x, refl)
  at_below (x ∷ xs) (suc i) h = at_below xs i (omega arith)

  pub at_end : (l : List A) (a b : A) (j : ℕ) → get_elem? (l ++ a ∷ []) j ≡ some b → (get_elem? l j ≡ some b) ⊎ ((j ≡ length l) × (a ≡ b))
  at_end [] a b zero e = inr (refl, some-injective a b e)
  at_end [] a b (suc j) e = absurd (some-ne-none b (sym e))
  at_end (x ∷ xs) a b zero e = inl e
  at_end (x ∷ xs) a b (suc j) e = ⊎_elim (λ h. inl h) (λ (t : (j ≡ length xs) × (a ≡ b)). inr (ap suc t.0, t.1)) (at_end xs a b j e)

  pub at_append : (l m : List A) (b : A) (j : ℕ) → get_elem? (l ++ m) j ≡ some b → (get_elem? l j ≡ some b) ⊎ ((i : ℕ) × (get_elem? m i ≡ some b))
  at_append [] m b j e = inr (j, e)
  at_append (x ∷ xs) m b zero e = inl e
  at_append (x ∷ xs) m b (suc j) e = at_append xs m b j e

  -- where the longer of two lists has an element, one of them has it at the same place
  pub at_longer_of : (l m : List A) (b : A) (j : ℕ) → get_elem? (longer l m) j ≡ some b → (get_elem? l j ≡ some b) ⊎ (get_elem? m j ≡ some b)
  at_longer_of [] m b j e = inr e
  at_longer_of (x ∷ xs) [] b j e = inl e
  at_longer_of (x ∷ xs) (y ∷ ys) b zero e = inl e
  at_longer_of (x ∷ xs) (y ∷ ys) b (suc j) e = at_longer_of xs ys b j e

  pub length_longer : (l m : List A) → length (longer l m) ≡ max (length l) (length m)
  length_longer [] m = omega arith
  length_longer (x ∷ xs) [] = omega arith
  length_longer (x ∷ xs) (y ∷ ys) = let h = length_longer xs ys in omega arith

module _ {A : Type 0} (f : A → ℕ) where
  pub total_le : (g : A → ℕ) (l : List A) → ((a : A) → f a ≤ g a) → total f l ≤ total g l
  total_le g [] h = omega arith
  total_le g (x ∷ xs) h = let a = h x in let b = total_le g xs h in omega arith

  pub none_of : (l : List A) → ((i : ℕ) (a : A) → get_elem? l i ≡ some a → f a ≡ 0) → total f l ≡ 0
  none_of [] h = refl
  none_of (x ∷ xs) h = let a = h 0 x refl in let b = none_of xs (λ i a e. h (suc i) a e) in omega arith

  -- the one element that counts
  pub alone : (l : List A) (i : ℕ) (v : A) → get_elem? l i ≡ some v → ((j : ℕ) (u : A) → get_elem? l j ≡ some u → j ≢ i → f u ≡ 0) → total f l ≡ f v
  alone [] i v e h = absurd (some-ne-none v (sym e))
  alone (x ∷ xs) zero v e h = let q : f x ≡ f v = ap f (some-injective x v e) in let z = none_of xs (λ j u d. h (suc j) u d (λ g. omega arith)) in omega arith
  alone (x ∷ xs) (suc i) v e h = let a = h 0 x refl (λ g. omega arith) in let z = alone xs i v e (λ j u d n. h (suc j) u d (λ g. n (omega arith))) in omega arith

pub one_below : (r c : ℕ) → r < c → one_if (nat_lt r c) ≡ 1
one_below r c h = grind (arith, nat_tests)

pub one_not_below : (r c : ℕ) → c ≤ r → one_if (nat_lt r c) ≡ 0
one_not_below r c h = grind (arith, nat_tests)

pub one_more : (r c : ℕ) → one_if (nat_lt r (c + 1)) ≡ one_if (nat_lt r c) + one_if (c == r)
one_more r c = dite (ℕ_discrete c r) (λ e. let a = one_not_below r c (omega arith) in let b = one_below r (c + 1) (omega arith) in let d : one_if (c == r) ≡ 1 = ap (λ (z : ℕ). one_if (c == z)) (sym e) ∙ one_if-same c in omega arith)
    (λ n. let d = one_if-other c r n in dite (dec_le c r) (λ h. let a = one_not_below r c h in let b = one_not_below r (c + 1) (omega arith) in omega arith) (λ h. let a = one_below r c (omega arith) in let b = one_below r (c + 1) (omega arith) in omega arith))

pub at_most_one : (b : Bool) → one_if b ≤ 1
at_most_one true = omega arith
at_most_one false = omega arith

pub below_of_one : (r c : ℕ) → 1 ≤ one_if (nat_lt r c) → r < c
below_of_one r c h = dite (dec_le c r) (λ g. let a = one_not_below r c g in absurd (omega arith)) (λ g. omega arith)

pub beyond : (l : List ℕ) (i : ℕ) → length l ≤ i → get_or l i 0 ≡ 0
beyond [] i h = refl
beyond (x ∷ xs) zero h = absurd (omega arith)
beyond (x ∷ xs) (suc i) h = beyond xs i (omega arith)

pub zeros : (n i : ℕ) → get_or {A = ℕ} (replicate n 0) i 0 ≡ 0
zeros zero i = refl
zeros (suc n) zero = refl
zeros (suc n) (suc i) = zeros n i

pub early : (l : List ℕ) (x k : ℕ) → k < length l → get_or (l ++ x ∷ []) k 0 ≡ get_or l k 0
early [] x k h = absurd (omega arith)
early (y ∷ ys) x zero h = refl
early (y ∷ ys) x (suc k) h = early ys x k (omega arith)

pub last : (l : List ℕ) (x : ℕ) → get_or (l ++ x ∷ []) (length l) 0 ≡ x
last [] x = refl
last (y ∷ ys) x = last ys x

pub long_snoc : {A : Type 0} (l : List A) (x : A) → length (l ++ x ∷ []) ≡ length l + 1
long_snoc [] x = refl
long_snoc (y ∷ ys) x = let h = long_snoc ys x in omega arith

pub same_list : (a b : List ℕ) → length a ≡ length b → ((k : ℕ) → k < length a → get_or a k 0 ≡ get_or b k 0) → a ≡ b
same_list [] [] l h = refl
same_list [] (y ∷ ys) l h = absurd (omega arith)
same_list (x ∷ xs) [] l h = absurd (omega arith)
same_list (x ∷ xs) (y ∷ ys) l h = λ i. h 0 (omega arith) i ∷ same_list xs ys (omega arith) (λ k m. h (suc k) (omega arith)) i

-- all rows but r0 have the same words
pub record Away (r0 : ℕ) (ws ws' : List ℕ) : Type 0 where
  pub flags : (r : ℕ) → r ≢ r0 → flag ws' r ≡ flag ws r
  pub words : (r k : ℕ) → r ≢ r0 → k < data_words → datum ws' r k ≡ datum ws r k

pub away_flag : (ws : List ℕ) (r0 x : ℕ) → Away r0 ws (set ws (row_words * r0 + 1) x)
away_flag ws r0 x = record {
  flags = λ r n. get_or-set_other ws (row_words * r0 + 1) (row_words * r + 1) x 0 (λ e. n (omega arith));
  words = λ r k n l. get_or-set_other ws (row_words * r0 + 1) (row_words * r + (k + 2)) x 0 (λ e. n (omega arith));
}

pub away_word : (ws : List ℕ) (r0 j x : ℕ) → j < data_words → Away r0 ws (set ws (row_words * r0 + (j + 2)) x)
away_word ws r0 j x h = record {
  flags = λ r n. get_or-set_other ws (row_words * r0 + (j + 2)) (row_words * r + 1) x 0 (λ e. n (omega arith));
  words = λ r k n l. get_or-set_other ws (row_words * r0 + (j + 2)) (row_words * r + (k + 2)) x 0 (λ e. n (omega arith));
}

pub away_claim : (ws : List ℕ) (r0 x : ℕ) → Away r0 ws (set ws 0 x)
away_claim ws r0 x = record {
  flags = λ r n. get_or-set_other ws 0 (row_words * r + 1) x 0 (λ e. omega arith);
  words = λ r k n l. get_or-set_other ws 0 (row_words * r + (k + 2)) x 0 (λ e. omega arith);
}

pub first_of : (l : List ℕ) (a : ℕ) → get_elem? l 0 ≡ some a → get_or l 0 0 ≡ a
first_of [] a e = absurd (some-ne-none a (sym e))
first_of (x ∷ xs) a e = some-injective x a e
