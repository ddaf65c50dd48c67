-- What shows that no interval is crowded: different numbers, each between the ends at its place; or a look at all pairs of ends.
use Rattle.std.proofs.Common.{ℕ, zero, suc, ◌+◌, ◌-◌, ◌<◌, ◌≤◌, ℤ, pos, ◌+ℤ◌, ◌-ℤ◌, ◌≤ℤ◌, ◌<ℤ◌, ◌≡◌, ◌≢◌, ◌⊎◌, inl, inr, Bool, true, false, cond, List, [], ◌∷◌, length, get_or, refl, sym, ◌∙◌, ap, subst, arith}
use Rattle.std.specs.Prelude.{unsigned_abs}
use Rattle.std.specs.List.{All, AllPairs, AllZip}
use Rattle.std.specs.List.Sorted.{IsPermutation}
use Rattle.std.proofs.lemmas.Int.{ints}
use Rattle.std.proofs.lemmas.List.{get_or_default}
use Rattle.std.proofs.lemmas.List.Sorted.{sum_by-IsPermutation}
use Rattle.cps_domain.specs.Window.{equals}
use Rattle.cps_p_alldiff.specs.declared.interval.Interval.{Interval}
use Rattle.cps_p_alldiff.specs.Intervals.{lies_in, covers, covered, numbers, AreEnds, IsRoomy, IsRoomyFrom}
use Rattle.cps_p_alldiff.specs.Owners.{owner_of}
use Rattle.cps_p_alldiff.proofs.IntervalCounts.{lies_low, lies_high, lies, covers_low, covers_high, is_covered, equals_is, is_equal, bool_cases, count_cons, weaker, pigeonhole, counted}

pub zip_length : {A B : Type 0} (R : A → B → Type 0) (xs : List A) (ys : List B) → AllZip R xs ys → length xs ≡ length ys
zip_length R [] [] h = refl
zip_length R [] (b ∷ ys) h = absurd h
zip_length R (a ∷ xs) [] h = absurd h
zip_length R (a ∷ xs) (b ∷ ys) h = let rest = zip_length R xs ys h.1 in omega arith

pub zip_at : {A B : Type 0} (R : A → B → Type 0) (xs : List A) (ys : List B) (k : ℕ) (d : A) (e : B) → AllZip R xs ys → k < length xs → R (get_or xs k d) (get_or ys k e)
zip_at R [] ys k d e h l = absurd (omega arith)
zip_at R (x ∷ xs) [] k d e h l = absurd h
zip_at R (x ∷ xs) (y ∷ ys) zero d e h l = h.0
zip_at R (x ∷ xs) (y ∷ ys) (suc k) d e h l = zip_at R xs ys k d e h.1 (omega arith)

lies_further : (h e : Interval) (v : ℤ) → covers h e ≡ true → lies_in e v ≡ true → lies_in h v ≡ true
lies_further h e v c i =
    let a = covers_low h e c in
    let b = covers_high h e c in
    let p = lies_low e v i in
    let q = lies_high e v i in
    lies h v (omega (arith, ints)) (omega (arith, ints))

-- different numbers between the ends
pub IsRoomy-values : (vs sorted : List ℤ) (es : List Interval) → AllZip (λ v e. lies_in e v ≡ true) vs es → IsPermutation vs sorted → AllPairs (λ v w. v ≢ w) sorted → IsRoomy es
IsRoomy-values vs sorted es within moved apart = record {
  room = λ h o.
      let a = counted (λ (v : ℤ). v) h vs es (zip_length (λ v e. lies_in e v ≡ true) vs es within)
      (λ k d e l c. lies_further h (get_or es k e) (get_or vs k d) c (zip_at (λ v e. lies_in e v ≡ true) vs es k d e within l)) in
      let b = sum_by-IsPermutation (λ v. cond (lies_in h v) 1 0) vs sorted moved in
      let c = pigeonhole (λ (v : ℤ). v) h sorted o apart in
      omega arith;
}

-- one that passes a test, or none
found : (p : Interval → Bool) (es : List Interval) (d : Interval) → ((k : ℕ) × (k < length es) × (p (get_or es k d) ≡ true)) ⊎ ((k : ℕ) → k < length es → p (get_or es k d) ≡ false)
found p [] d = inr (λ k l. absurd (omega arith))
found p (e ∷ es) d = elim (bool_cases (p e)) [
  | inl yes' ↦ inl (0, omega arith, yes')
  | inr no' ↦ elim (found p es d) [
    | inl h ↦ inl (suc h.0, (let l = h.1 in omega arith), h.2)
    | inr h ↦ inr (both_parts no' h)
  ]
]
  where
    both_parts : p e ≡ false → ((k : ℕ) → k < length es → p (get_or es k d) ≡ false) → (k : ℕ) → k < length (e ∷ es) → p (get_or (e ∷ es) k d) ≡ false
    both_parts n h zero l = n
    both_parts n h (suc k) l = h k (omega arith)

fewer : (h g : Interval) (es : List Interval) (d : Interval) → ((k : ℕ) → k < length es → covers h (get_or es k d) ≡ true → covers g (get_or es k d) ≡ true) → covered h es ≤ covered g es
fewer h g [] d p = omega arith
fewer h g (e ∷ es) d p =
    let rest = fewer h g es d (λ k l. p (suc k) (omega arith)) in
    let here = weaker (covers h e) (covers g e) (p 0 (omega arith)) in
    omega (arith, count_cons (covers h) e es, count_cons (covers g) e es)

abbrev from : ℤ → ℕ → Interval
from low n = record { low = low; high = low +ℤ pos n }

not_same : (a b : ℤ) → equals a b ≡ false → a ≡ b → ⊥
not_same a b e same = let bad : true ≡ false = sym (is_equal a b same) ∙ e in cc bad

module _ (es : List Interval) (d : Interval) (ends : All AreEnds es) (tried : (k : ℕ) → k < length es → IsRoomyFrom es (get_or es k d).low) where
  -- an interval of which an end is no end of these covers no more than a shorter one
  no_low : (low high : ℤ) → ((k : ℕ) → k < length es → equals (get_or es k d).low low ≡ false) → covered (record { low = low; high = high }) es ≤ covered (record { low = low +ℤ pos 1; high = high }) es
  no_low low high other = fewer (record { low = low; high = high }) (record { low = low +ℤ pos 1; high = high }) es d (λ k l c.
      let e = get_or es k d in
      let a = covers_low (record { low = low; high = high }) e c in
      let b = covers_high (record { low = low; high = high }) e c in
      let ne = not_same e.low low (other k l) in
      is_covered (record { low = low +ℤ pos 1; high = high }) e (further low e.low a ne) b)
    where
      further : (x y : ℤ) → x ≤ℤ y → (y ≡ x → ⊥) → (x +ℤ pos 1) ≤ℤ y
      further x y h ne = omega (arith, ints)

  no_high : (low high lower : ℤ) → (lower +ℤ pos 1) ≡ high → ((k : ℕ) → k < length es → equals (get_or es k d).high high ≡ false) → covered (record { low = low; high = high }) es ≤ covered (record { low = low; high = lower }) es
  no_high low high lower next other = fewer (record { low = low; high = high }) (record { low = low; high = lower }) es d (λ k l c.
      let e = get_or es k d in
      let a = covers_low (record { low = low; high = high }) e c in
      let b = covers_high (record { low = low; high = high }) e c in
      let ne = not_same e.high high (other k l) in
      is_covered (record { low = low; high = lower }) e a (further e.high high lower next b ne))
    where
      further : (x y z : ℤ) → (z +ℤ pos 1) ≡ y → x ≤ℤ y → (x ≡ y → ⊥) → x ≤ℤ z
      further x y z e h ne = omega (arith, ints)

  none_of : (h : Interval) (fs : List Interval) → ((k : ℕ) → k < length fs → covers h (get_or fs k d) ≡ true → ⊥) → covered h fs ≤ 0
  none_of h [] p = omega arith
  none_of h (f ∷ fs) p =
      let rest = none_of h fs (λ k l. p (suc k) (omega arith)) in
      let here = weaker (covers h f) false (λ e. absurd (p 0 (omega arith) e)) in
      omega (arith, count_cons (covers h) f fs)

  empty : (h : Interval) → h.high <ℤ h.low → covered h es ≤ 0
  empty h past = none_of h es (λ k l c.
      let e = get_or es k d in
      let a = covers_low h e c in
      let b = covers_high h e c in
      let o = (ends k d l).ordered in
      omega (arith, ints))

  numbers_from : (low : ℤ) (n : ℕ) → numbers (from low n) ≡ n + 1
  numbers_from low n = let e : unsigned_abs ((low +ℤ pos n) -ℤ low) ≡ n = omega (arith, ints) in omega arith

  at_ends : (n : ℕ) (low : ℤ) (i j : ℕ) → i < length es → j < length es → (get_or es i d).low ≡ low → (get_or es j d).high ≡ low +ℤ pos n → covered (from low n) es ≤ n + 1
  at_ends n low i j l m p q =
      let P : ℤ → ℤ → Type 0 = λ a b. a ≤ℤ b → covered (record { low = a; high = b }) es ≤ numbers (record { low = a; high = b }) in
      let a : P (get_or es i d).low (get_or es j d).high = (tried i l).room j d m in
      let b : P low (low +ℤ pos n) = subst (λ (x : ℤ). P x (low +ℤ pos n)) p (subst (λ (y : ℤ). P (get_or es i d).low y) q a) in
      let c = b (omega (arith, ints)) in
      omega (arith, numbers_from low n)

  -- each interval, by its length: one of which an end is no end of these covers no more than a shorter one
  by_length : (n : ℕ) (low : ℤ) → covered (from low n) es ≤ n + 1
  by_length zero low = elim (found (λ e. equals e.low low) es d) [
    | inr none ↦
        let a = no_low low (low +ℤ pos 0) none in
        let b = empty (record { low = low +ℤ pos 1; high = low +ℤ pos 0 }) (omega (arith, ints)) in
        omega arith
    | inl i ↦ elim (found (λ e. equals e.high (low +ℤ pos 0)) es d) [
      | inr none ↦
          let a = no_high low (low +ℤ pos 0) (low -ℤ pos 1) (omega (arith, ints)) none in
          let b = empty (record { low = low; high = low -ℤ pos 1 }) (omega (arith, ints)) in
          omega arith
      | inl j ↦ at_ends 0 low i.0 j.0 i.1 j.1 (equals_is (get_or es i.0 d).low low i.2) (equals_is (get_or es j.0 d).high (low +ℤ pos 0) j.2)
    ]
  ]
  by_length (suc n) low = elim (found (λ e. equals e.low low) es d) [
    | inr none ↦
        let same : (low +ℤ pos 1) +ℤ pos n ≡ low +ℤ pos (suc n) = omega (arith, ints) in
        let a = no_low low (low +ℤ pos (suc n)) none in
        let b = subst (λ (z : ℤ). covered (record { low = low +ℤ pos 1; high = z }) es ≤ n + 1) same (by_length n (low +ℤ pos 1)) in
        omega arith
    | inl i ↦ elim (found (λ e. equals e.high (low +ℤ pos (suc n))) es d) [
      | inr none ↦
          let a = no_high low (low +ℤ pos (suc n)) (low +ℤ pos n) (omega (arith, ints)) none in
          let b = by_length n low in
          omega arith
      | inl j ↦ at_ends (suc n) low i.0 j.0 i.1 j.1 (equals_is (get_or es i.0 d).low low i.2) (equals_is (get_or es j.0 d).high (low +ℤ pos (suc n)) j.2)
    ]
  ]

  from_is : (h : Interval) → h.low ≤ℤ h.high → (n : ℕ) → n ≡ unsigned_abs (h.high -ℤ h.low) → from h.low n ≡ h
  from_is h o n e = let same : h.low +ℤ pos n ≡ h.high = omega (arith, ints) in ap (λ (z : ℤ). let g : Interval = record { low = h.low; high = z } in g) same

  pub IsRoomy-tried : IsRoomy es
  IsRoomy-tried = record {
    room = λ h o.
        let n = unsigned_abs (h.high -ℤ h.low) in
        subst (λ (g : Interval). covered g es ≤ numbers h) (from_is h o n refl) (by_length n h.low);
  }

-- by index
pub zip_from : {A B : Type 0} (R : A → B → Type 0) (xs : List A) (ys : List B) → length xs ≡ length ys → ((k : ℕ) (d : A) (e : B) → k < length xs → R (get_or xs k d) (get_or ys k e)) → AllZip R xs ys
zip_from R [] [] same h = tt
zip_from R [] (y ∷ ys) same h = absurd (omega arith)
zip_from R (x ∷ xs) [] same h = absurd (omega arith)
zip_from R (x ∷ xs) (y ∷ ys) same h = (h 0 x y (omega arith), zip_from R xs ys (omega arith) (λ k d e l. h (suc k) d e (omega arith)))

pub last_or : (k n : ℕ) → k < n + 1 → (k < n) ⊎ (k ≡ n)
last_or k n l = grind arith

-- one more number, between its ends
pub within_more : (vs : List ℤ) (es : List Interval) (n : ℕ) (c : Interval) → n < length vs → n < length es → (get_or es n c).low ≤ℤ get_or vs n (pos 0) → get_or vs n (pos 0) ≤ℤ (get_or es n c).high
    → ((j : ℕ) (d : ℤ) (e : Interval) → j < n → lies_in (get_or es j e) (get_or vs j d) ≡ true) → (j : ℕ) (d : ℤ) (e : Interval) → j < n + 1 → lies_in (get_or es j e) (get_or vs j d) ≡ true
within_more vs es n c l m a b h j d e k = elim (last_or j n k) [
  | inl i ↦ h j d e i
  | inr i ↦
      let P : ℕ → Type 0 = λ u. lies_in (get_or es u e) (get_or vs u d) ≡ true in
      subst P (sym i) (ap (λ g. lies_in g (get_or vs n d)) (get_or_default es n e c m) ∙ ap (λ v. lies_in (get_or es n c) v) (get_or_default vs n d (pos 0) l) ∙ lies (get_or es n c) (get_or vs n (pos 0)) a b)
]

-- one more number, greater than the last
pub rising_more : (vs : List ℤ) (n : ℕ) → 0 < n → get_or vs (n - 1) (pos 0) <ℤ get_or vs n (pos 0) → ((i j : ℕ) → i < j → j < n → get_or vs i (pos 0) <ℤ get_or vs j (pos 0))
    → (i j : ℕ) → i < j → j < n + 1 → get_or vs i (pos 0) <ℤ get_or vs j (pos 0)
rising_more vs n some up h i j l m = elim (last_or j n m) [
  | inl k ↦ h i j l k
  | inr k ↦
      let P : ℕ → Type 0 = λ u. get_or vs i (pos 0) <ℤ get_or vs u (pos 0) in
      subst P (sym k) (elim (last_or i (n - 1) (omega arith)) [
        | inl g ↦ let a = h i (n - 1) g (omega arith) in omega (arith, ints)
        | inr g ↦ let Q : ℕ → Type 0 = λ u. get_or vs u (pos 0) <ℤ get_or vs n (pos 0) in subst Q (sym g) up
      ])
]

pub rising_apart : (vs : List ℤ) → ((i j : ℕ) → i < j → j < length vs → get_or vs i (pos 0) <ℤ get_or vs j (pos 0)) → AllPairs (λ v w. v ≢ w) vs
rising_apart vs h i j d l m same =
    let a = h i j l m in
    let p : get_or vs i d ≡ get_or vs i (pos 0) = get_or_default vs i d (pos 0) (omega arith) in
    let q : get_or vs j d ≡ get_or vs j (pos 0) = get_or_default vs j d (pos 0) m in
    absurd (omega (arith, ints))

-- numbers that are each its own place's
pub owned_more : (owners : List ℕ) (base : ℤ) (vs : List ℤ) (n : ℕ) → owner_of owners base (get_or vs n (pos 0)) ≡ n → ((j : ℕ) → j < n → owner_of owners base (get_or vs j (pos 0)) ≡ j)
    → (j : ℕ) → j < n + 1 → owner_of owners base (get_or vs j (pos 0)) ≡ j
owned_more owners base vs n one h j l = elim (last_or j n l) [
  | inl i ↦ h j i
  | inr i ↦ subst (λ (k : ℕ). owner_of owners base (get_or vs k (pos 0)) ≡ k) (sym i) one
]

pub owned_apart : (owners : List ℕ) (base : ℤ) (vs : List ℤ) → ((j : ℕ) → j < length vs → owner_of owners base (get_or vs j (pos 0)) ≡ j) → AllPairs (λ v w. v ≢ w) vs
owned_apart owners base vs h i j d l m same =
    let p : i < length vs = omega arith in
    let zero_based : get_or vs i (pos 0) ≡ get_or vs j (pos 0) = get_or_default vs i (pos 0) d p ∙ same ∙ sym (get_or_default vs j (pos 0) d m) in
    let one : i ≡ j = sym (h i p) ∙ ap (owner_of owners base) zero_based ∙ h j m in
    absurd (omega arith)
