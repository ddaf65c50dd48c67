-- How many things have a number in an interval: where no two have the same, no more than it has numbers.
use Rattle.std.proofs.Common.{ℕ, zero, suc, ◌+◌, ◌<◌, ◌≤◌, ℤ, pos, ◌+ℤ◌, ◌≤ℤ◌, ◌≡◌, ◌≢◌, ◌⊎◌, inl, inr, Bool, true, false, cond, ◌&&◌, List, [], ◌∷◌, length, get_or, refl, sym, ◌∙◌, ap, arith}
use Rattle.std.specs.Prelude.{int_le}
use Rattle.std.specs.List.{All, AllPairs, count_by}
use Rattle.std.proofs.lemmas.Int.{ints}
use Rattle.std.proofs.lemmas.List.Elements.{All-head, All-tail}
use Rattle.std.proofs.lemmas.List.Sums.{sum_by-cons}
use Rattle.cps_domain.specs.Window.{equals}
use Rattle.cps_domain.proofs.Tests.{true_le, le_true, false_le, first_of_both, second_of_both, both}
use Rattle.cps_p_alldiff.specs.declared.interval.Interval.{Interval}
use Rattle.cps_p_alldiff.specs.Intervals.{lies_in, covers, covered, numbers}

pub lies_low : (h : Interval) (x : ℤ) → lies_in h x ≡ true → h.low ≤ℤ x
lies_low h x e = true_le h.low x (first_of_both (int_le h.low x) (int_le x h.high) e)

pub lies_high : (h : Interval) (x : ℤ) → lies_in h x ≡ true → x ≤ℤ h.high
lies_high h x e = true_le x h.high (second_of_both (int_le h.low x) (int_le x h.high) e)

pub lies : (h : Interval) (x : ℤ) → h.low ≤ℤ x → x ≤ℤ h.high → lies_in h x ≡ true
lies h x a b = both (int_le h.low x) (int_le x h.high) (le_true h.low x a) (le_true x h.high b)

pub covers_low : (h e : Interval) → covers h e ≡ true → h.low ≤ℤ e.low
covers_low h e c = true_le h.low e.low (first_of_both (int_le h.low e.low) (int_le e.high h.high) c)

pub covers_high : (h e : Interval) → covers h e ≡ true → e.high ≤ℤ h.high
covers_high h e c = true_le e.high h.high (second_of_both (int_le h.low e.low) (int_le e.high h.high) c)

pub is_covered : (h e : Interval) → h.low ≤ℤ e.low → e.high ≤ℤ h.high → covers h e ≡ true
is_covered h e a b = both (int_le h.low e.low) (int_le e.high h.high) (le_true h.low e.low a) (le_true e.high h.high b)

pub equals_is : (a b : ℤ) → equals a b ≡ true → a ≡ b
equals_is a b h =
    let p = true_le a b (first_of_both (int_le a b) (int_le b a) h) in
    let q = true_le b a (second_of_both (int_le a b) (int_le b a) h) in
    omega (arith, ints)

pub is_equal : (a b : ℤ) → a ≡ b → equals a b ≡ true
is_equal a b e = both (int_le a b) (int_le b a) (le_true a b (omega (arith, ints))) (le_true b a (omega (arith, ints)))

pub bool_cases : (b : Bool) → (b ≡ true) ⊎ (b ≡ false)
bool_cases true = inl refl
bool_cases false = inr refl

pub count_cons : {X : Type 0} (p : X → Bool) (x : X) (xs : List X) → count_by p (x ∷ xs) ≡ cond (p x) 1 0 + count_by p xs
count_cons p x xs = sum_by-cons (λ y. cond (p y) 1 0) x xs

at_true : (b : Bool) → b ≡ true → ◌≡◌ {A = ℕ} (cond b 1 0) 1
at_true b e = ap (λ c. cond {A = ℕ} c 1 0) e

at_false : (b : Bool) → b ≡ false → ◌≡◌ {A = ℕ} (cond b 1 0) 0
at_false b e = ap (λ c. cond {A = ℕ} c 1 0) e

at_most : (b : Bool) → cond b 1 0 ≤ 1
at_most true = omega arith
at_most false = omega arith

one_of : (p q r : Bool) → (p ≡ true → (q ≡ true) ⊎ (r ≡ true)) → cond p 1 0 ≤ cond q 1 0 + cond r 1 0
one_of false q r h = omega arith
one_of true q r h = elim (h refl) [ inl e ↦ omega (arith, at_true q e) | inr e ↦ omega (arith, at_true r e) ]

pub weaker : (p q : Bool) → (p ≡ true → q ≡ true) → cond p 1 0 ≤ cond q 1 0
weaker false q h = omega arith
weaker true q h = omega (arith, at_true q (h refl))

pub pairs_head : {X : Type 0} (R : X → X → Type 0) (x : X) (xs : List X) → AllPairs R (x ∷ xs) → All (R x) xs
pairs_head R x xs h = λ k d l. h 0 (suc k) d (omega arith) (omega arith)

pub pairs_tail : {X : Type 0} (R : X → X → Type 0) (x : X) (xs : List X) → AllPairs R (x ∷ xs) → AllPairs R xs
pairs_tail R x xs h = λ i j d l m. h (suc i) (suc j) d (omega arith) (omega arith)

-- what passes one test passes one of two
split : {X : Type 0} (p q r : X → Bool) → ((x : X) → p x ≡ true → (q x ≡ true) ⊎ (r x ≡ true)) → (xs : List X) → count_by p xs ≤ count_by q xs + count_by r xs
split p q r h [] = omega arith
split p q r h (x ∷ xs) =
    let rest = split p q r h xs in
    let here = one_of (p x) (q x) (r x) (h x) in
    omega (arith, count_cons p x xs, count_cons q x xs, count_cons r x xs)

none : {X : Type 0} (p : X → Bool) (xs : List X) → All (λ x. p x ≡ false) xs → count_by p xs ≡ 0
none p [] h = refl
none p (x ∷ xs) h =
    let rest = none p xs (All-tail (λ y. p y ≡ false) x xs h) in
    let here = at_false (p x) (All-head (λ y. p y ≡ false) x xs h) in
    omega (arith, count_cons p x xs)

not_equal : (a b : ℤ) → a ≢ b → equals b a ≡ false
not_equal a b ne = elim (bool_cases (equals b a)) [ inl e ↦ absurd (ne (sym (equals_is b a e))) | inr e ↦ e ]

module _ {X : Type 0} (f : X → ℤ) where
  -- at most one has a number
  one_at_most : (v : ℤ) (xs : List X) → AllPairs (λ x y. f x ≢ f y) xs → count_by (λ y. equals (f y) v) xs ≤ 1
  one_at_most v [] h = omega arith
  one_at_most v (x ∷ xs) h = elim (bool_cases (equals (f x) v)) [
    | inl e ↦
        let others : All (λ y. equals (f y) v ≡ false) xs = λ k d l. not_equal v (f (get_or xs k d)) (λ g. pairs_head (λ x y. f x ≢ f y) x xs h k d l (equals_is (f x) v e ∙ g)) in
        let rest = none (λ y. equals (f y) v) xs others in
        let here = at_most (equals (f x) v) in
        omega (arith, count_cons (λ y. equals (f y) v) x xs)
    | inr e ↦
        let rest = one_at_most v xs (pairs_tail (λ x y. f x ≢ f y) x xs h) in
        let here = at_false (equals (f x) v) e in
        omega (arith, count_cons (λ y. equals (f y) v) x xs)
  ]

  -- and at most n have one of the n numbers from one on
  below : ℤ → ℕ → ℤ → Bool
  below low n z = int_le low z && int_le (z +ℤ pos 1) (low +ℤ pos n)

  none_below : (low z : ℤ) → below low 0 z ≡ true → ⊥
  unfolding below
  none_below low z e =
      let a = true_le low z (first_of_both (int_le low z) (int_le (z +ℤ pos 1) (low +ℤ pos 0)) e) in
      let b = true_le (z +ℤ pos 1) (low +ℤ pos 0) (second_of_both (int_le low z) (int_le (z +ℤ pos 1) (low +ℤ pos 0)) e) in
      omega (arith, ints)

  next_below : (low z : ℤ) (n : ℕ) → below low (suc n) z ≡ true → (equals z low ≡ true) ⊎ (below (low +ℤ pos 1) n z ≡ true)
  unfolding below
  next_below low z n e =
      let a = true_le low z (first_of_both (int_le low z) (int_le (z +ℤ pos 1) (low +ℤ pos (suc n))) e) in
      let b = true_le (z +ℤ pos 1) (low +ℤ pos (suc n)) (second_of_both (int_le low z) (int_le (z +ℤ pos 1) (low +ℤ pos (suc n))) e) in
      elim (bool_cases (int_le (low +ℤ pos 1) z)) [
        | inl g ↦ inr (both (int_le (low +ℤ pos 1) z) (int_le (z +ℤ pos 1) ((low +ℤ pos 1) +ℤ pos n)) g (le_true (z +ℤ pos 1) ((low +ℤ pos 1) +ℤ pos n) (omega (arith, ints))))
        | inr g ↦ let c = false_le (low +ℤ pos 1) z g in inl (is_equal z low (omega (arith, ints)))
      ]

  few : (n : ℕ) (low : ℤ) (xs : List X) → AllPairs (λ x y. f x ≢ f y) xs → count_by (λ y. below low n (f y)) xs ≤ n
  few zero low xs h =
      let e = none (λ y. below low 0 (f y)) xs (λ k d l. elim (bool_cases (below low 0 (f (get_or xs k d)))) [ inl g ↦ absurd (none_below low (f (get_or xs k d)) g) | inr g ↦ g ]) in
      omega arith
  few (suc n) low xs h =
      let a = split (λ y. below low (suc n) (f y)) (λ y. equals (f y) low) (λ y. below (low +ℤ pos 1) n (f y)) (λ y. next_below low (f y) n) xs in
      let b = one_at_most low xs h in
      let c = few n (low +ℤ pos 1) xs h in
      omega arith

  in_below : (h : Interval) (z : ℤ) → h.low ≤ℤ h.high → lies_in h z ≡ true → below h.low (numbers h) z ≡ true
  unfolding below
  in_below h z o e =
      let a = lies_low h z e in
      let b = lies_high h z e in
      both (int_le h.low z) (int_le (z +ℤ pos 1) (h.low +ℤ pos (numbers h))) (le_true h.low z a) (le_true (z +ℤ pos 1) (h.low +ℤ pos (numbers h)) (omega (arith, ints)))

  -- the pigeonhole principle
  pub pigeonhole : (h : Interval) (xs : List X) → h.low ≤ℤ h.high → AllPairs (λ x y. f x ≢ f y) xs → count_by (λ y. lies_in h (f y)) xs ≤ numbers h
  pigeonhole h xs o apart =
      let a = split (λ y. lies_in h (f y)) (λ y. below h.low (numbers h) (f y)) (λ y. false) (λ y e. inl (in_below h (f y) o e)) xs in
      let b = none (λ (y : X). false) xs (λ k d l. refl) in
      let c = few (numbers h) h.low xs apart in
      omega arith

  -- where each one whose ends are covered has its number in the interval, as many have
  pub counted : (h : Interval) (xs : List X) (es : List Interval) → length xs ≡ length es
      → ((k : ℕ) (d : X) (e : Interval) → k < length xs → covers h (get_or es k e) ≡ true → lies_in h (f (get_or xs k d)) ≡ true) → covered h es ≤ count_by (λ y. lies_in h (f y)) xs
  counted h [] [] same p = omega arith
  counted h [] (e ∷ es) same p = absurd (omega arith)
  counted h (x ∷ xs) [] same p = absurd (omega arith)
  counted h (x ∷ xs) (e ∷ es) same p =
      let rest = counted h xs es (omega arith) (λ k d g l. p (suc k) d g (omega arith)) in
      let here = weaker (covers h e) (lies_in h (f x)) (p 0 x e (omega arith)) in
      omega (arith, count_cons (covers h) e es, count_cons (λ y. lies_in h (f y)) x xs)

  -- and one more, where one whose ends are not covered has
  pub counted_more : (h : Interval) (xs : List X) (es : List Interval) (k : ℕ) (d : X) (e : Interval) → length xs ≡ length es
      → ((k : ℕ) (d : X) (e : Interval) → k < length xs → covers h (get_or es k e) ≡ true → lies_in h (f (get_or xs k d)) ≡ true)
      → k < length xs → covers h (get_or es k e) ≡ false → lies_in h (f (get_or xs k d)) ≡ true → covered h es < count_by (λ y. lies_in h (f y)) xs
  counted_more h [] es k d e same p l out in' = absurd (omega arith)
  counted_more h (x ∷ xs) [] k d e same p l out in' = absurd (omega arith)
  counted_more h (x ∷ xs) (g ∷ es) zero d e same p l out in' =
      let rest = counted h xs es (omega arith) (λ j c b m. p (suc j) c b (omega arith)) in
      omega (arith, count_cons (covers h) g es, count_cons (λ y. lies_in h (f y)) x xs, at_false (covers h g) out, at_true (lies_in h (f x)) in')
  counted_more h (x ∷ xs) (g ∷ es) (suc k) d e same p l out in' =
      let rest = counted_more h xs es k d e (omega arith) (λ j c b m. p (suc j) c b (omega arith)) (omega arith) out in' in
      let here = weaker (covers h g) (lies_in h (f x)) (p 0 x g (omega arith)) in
      omega (arith, count_cons (covers h) g es, count_cons (λ y. lies_in h (f y)) x xs)

-- what passes two tests passes one of them, and one thing more does that passes it alone
pub both_fewer : {X : Type 0} (p q : X → Bool) (xs : List X) → count_by (λ x. p x && q x) xs ≤ count_by q xs
both_fewer p q [] = omega arith
both_fewer p q (x ∷ xs) =
    let rest = both_fewer p q xs in
    let here = weaker (p x && q x) (q x) (second_of_both (p x) (q x)) in
    omega (arith, count_cons (λ y. p y && q y) x xs, count_cons q x xs)

pub one_more : {X : Type 0} (p q : X → Bool) (xs : List X) (k : ℕ) (d : X) → k < length xs → p (get_or xs k d) ≡ false → q (get_or xs k d) ≡ true → count_by (λ x. p x && q x) xs < count_by q xs
one_more p q [] k d l no' yes' = absurd (omega arith)
one_more p q (x ∷ xs) zero d l no' yes' =
    let rest = both_fewer p q xs in
    let none' : (p x && q x) ≡ false = ap (λ b. b && q x) no' in
    omega (arith, count_cons (λ y. p y && q y) x xs, count_cons q x xs, at_false (p x && q x) none', at_true (q x) yes')
one_more p q (x ∷ xs) (suc k) d l no' yes' =
    let rest = one_more p q xs k d (omega arith) no' yes' in
    let here = weaker (p x && q x) (q x) (second_of_both (p x) (q x)) in
    omega (arith, count_cons (λ y. p y && q y) x xs, count_cons q x xs)
