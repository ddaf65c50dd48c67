-- The intervals that two rising lists share, and that a rising list is fixed by its numbers.
use Rattle.std.proofs.Common.{ℕ, zero, suc, ◌+◌, ◌≤◌, ◌<◌, ◌-◌, ℤ, pos, negsuc, ◌+ℤ◌, ◌≤ℤ◌, ◌<ℤ◌, ◌≡◌, Bool, true, false, ◌&&◌, ◌||◌, inl, inr, List, [], ◌∷◌, ◌++◌, length, get_or, drop, drop-cons, refl, sym, ◌∙◌, ap, subst, true≢false, arith, ◌^◌}
use Rattle.std.specs.Prelude.{int_le, not}
use Rattle.std.specs.Bool.{Decides}
use Rattle.std.specs.Ordering.{int_eq}
use Rattle.std.proofs.lemmas.Bool.Decides.{Decides-like, Decides-and, Decides-int_eq}
use Rattle.std.proofs.lemmas.Int.{ints, by_lt_z}
use Rattle.std.proofs.lemmas.List.Folds.{list_any-append}
use Rattle.cps_domain.specs.Window.{within, is_among, RisesFrom}
use Rattle.cps_domain.specs.Cuts.{IsUpTo, IsFromOn}
use Rattle.cps_domain.specs.Meeting.{AddsShared, AreShared}
use Rattle.cps_domain.proofs.Tests.{within_low, within_high, is_within, or_cases, or_right, first_of_both, second_of_both, test_false, up_to_keeps, from_on_keeps}
use Rattle.cps_domain.proofs.Slices.{pair_same}
use Rattle.cps_domain.proofs.Rising.{rising_lower, above_low}

-- the part of one interval from the low end and up to the high end of another is what they share
and_three : (a b c : Bool) → ((a && b) && c) ≡ (a && (b && c))
and_three true b c = refl
and_three false b c = refl

pub shared_values : (p q r s : ℤ × ℤ) (x : ℤ) → IsFromOn p q.0 r → IsUpTo r q.1 s → within x s ≡ (within x p && within x q)
shared_values p q r s x f u =
    up_to_keeps r s q.1 x u ∙ ap (λ b. b && int_le x q.1) (from_on_keeps p r q.0 x f) ∙ and_three (within x p) (int_le q.0 x) (int_le x q.1)

pub none_within : (s : ℤ × ℤ) (x : ℤ) → s.1 <ℤ s.0 → within x s ≡ false
none_within s x h = test_false (within x s) (λ e. absurd (let a = within_low x s e in let b = within_high x s e in omega (arith, ints)))

pub shares_none : (p q r s : ℤ × ℤ) (old : List (ℤ × ℤ)) → IsFromOn p q.0 r → IsUpTo r q.1 s → s.1 <ℤ s.0 → AddsShared p q old old
shares_none p q r s old f u h = inl (refl, λ x. sym (shared_values p q r s x f u) ∙ none_within s x h)

pub shares_one : (p q r s : ℤ × ℤ) (old new : List (ℤ × ℤ)) → IsFromOn p q.0 r → IsUpTo r q.1 s → s.0 ≤ℤ s.1 → new ≡ old ++ (s ∷ []) → AddsShared p q old new
shares_one p q r s old new f u h e = inr (s, (record { ordered = h; values = λ x. shared_values p q r s x f u }, e))

-- how far a walk through two lists has come
pub record SharedSoFar (ps qs ms rest other : List (ℤ × ℤ)) : Type 0 where
  pub rising : RisesFrom (negsuc (2 ^ 62 - 1)) ms
  pub values : (x : ℤ) → (is_among ms x || (is_among rest x && is_among other x)) ≡ (is_among ps x && is_among qs x)
  pub apart : (x y : ℤ) → is_among ms x ≡ true → is_among rest y ≡ true → is_among other y ≡ true → (x +ℤ pos 1) <ℤ y

pub shared_none : (ps qs : List (ℤ × ℤ)) → SharedSoFar ps qs [] ps qs
shared_none ps qs = record { rising = tt; values = λ x. refl; apart = λ x y a b c. absurd (true≢false (sym a)) }

and_swap : (a b : Bool) → (a && b) ≡ (b && a)
and_swap true true = refl
and_swap true false = refl
and_swap false true = refl
and_swap false false = refl

shared_swap : (ps qs ms rest other : List (ℤ × ℤ)) → SharedSoFar ps qs ms rest other → SharedSoFar qs ps ms other rest
shared_swap ps qs ms rest other h = record {
  rising = h.rising;
  values = λ x. ap (λ b. is_among ms x || b) (and_swap (is_among other x) (is_among rest x)) ∙ h.values x ∙ and_swap (is_among ps x) (is_among qs x);
  apart = λ x y a b c. h.apart x y a c b;
}

or_false : (a : Bool) → (a || false) ≡ a
or_false true = refl
or_false false = refl

and_false : (a : Bool) → (a && false) ≡ false
and_false true = refl
and_false false = refl

-- the walk ends with one of the lists
pub shared_left : (ps qs ms other : List (ℤ × ℤ)) → SharedSoFar ps qs ms [] other → AreShared ps qs ms
shared_left ps qs ms other h = record { rising = h.rising; values = λ x. sym (or_false (is_among ms x)) ∙ h.values x }

pub shared_right : (ps qs ms rest : List (ℤ × ℤ)) → SharedSoFar ps qs ms rest [] → AreShared ps qs ms
shared_right ps qs ms rest h = record { rising = h.rising; values = λ x. sym (or_false (is_among ms x)) ∙ ap (λ b. is_among ms x || b) (sym (and_false (is_among rest x))) ∙ h.values x }

-- an interval after rising ones
rising_push : (low : ℤ) (ms : List (ℤ × ℤ)) (r : ℤ × ℤ) → RisesFrom low ms → low <ℤ r.0 → r.0 ≤ℤ r.1 → r.1 <ℤ pos (2 ^ 62) → ((x : ℤ) → is_among ms x ≡ true → (x +ℤ pos 1) <ℤ r.0) → RisesFrom low (ms ++ (r ∷ []))
rising_push low [] r h a b c g = (a, b, c, tt)
rising_push low (p ∷ ps) r h a b c g =
    (h.0, h.1, h.2, rising_push (p.1 +ℤ pos 1) ps r h.3 (g p.1 (ap (λ t. t || is_among ps p.1) (is_within p.1 p h.1 (omega (arith, ints))))) b c (λ x e. g x (or_right (within x p) (is_among ps x) e)))

-- the numbers after a step are those before it and those that two intervals share
pub record Adds (p q : ℤ × ℤ) (ms new : List (ℤ × ℤ)) : Type 0 where
  pub rising : RisesFrom (negsuc (2 ^ 62 - 1)) new
  pub values : (x : ℤ) → is_among new x ≡ (is_among ms x || (within x p && within x q))

or_true_left : (a b : Bool) → a ≡ true → (a || b) ≡ true
or_true_left true b e = refl
or_true_left false b e = absurd (true≢false (sym e))

pub adds : (ps qs ms new rest other : List (ℤ × ℤ)) (p q : ℤ × ℤ) → RisesFrom (negsuc (2 ^ 62 - 1)) (p ∷ rest) → SharedSoFar ps qs ms (p ∷ rest) (q ∷ other) → AddsShared p q ms new → Adds p q ms new
adds ps qs ms new rest other p q up h (inl a) = record {
  rising = subst (λ l. RisesFrom (negsuc (2 ^ 62 - 1)) l) (sym a.0) h.rising;
  values = λ x. ap (λ l. is_among l x) a.0 ∙ sym (or_false (is_among ms x)) ∙ ap (λ b. is_among ms x || b) (sym (a.1 x));
}
adds ps qs ms new rest other p q up h (inr a) =
    let r = a.0 in let s = a.1.0 in
    let o = s.ordered in
    let in_low : (within a.0.0 p && within a.0.0 q) ≡ true = sym (s.values r.0) ∙ is_within r.0 r (omega (arith, ints)) o in
    let in_high : (within a.0.1 p && within a.0.1 q) ≡ true = sym (s.values r.1) ∙ is_within r.1 r o (omega (arith, ints)) in
    let low_p = first_of_both (within r.0 p) (within r.0 q) in_low in
    let low_q = second_of_both (within r.0 p) (within r.0 q) in_low in
    let high_p = first_of_both (within r.1 p) (within r.1 q) in_high in
    let l = within_low r.0 p low_p in let k = within_high r.1 p high_p in let u = up.0 in let v = up.2 in
    record {
      rising = subst (λ w. RisesFrom (negsuc (2 ^ 62 - 1)) w) (sym a.1.1)
          (rising_push (negsuc (2 ^ 62 - 1)) ms r h.rising (omega (arith, ints)) o (omega (arith, ints))
          (λ x e. h.apart x r.0 e (or_true_left (within r.0 p) (is_among rest r.0) low_p) (or_true_left (within r.0 q) (is_among other r.0) low_q)));
      values = λ x. ap (λ w. is_among w x) a.1.1 ∙ list_any-append (within x) ms (r ∷ []) ∙ ap (λ b. is_among ms x || b) (or_false (within x r) ∙ s.values x);
    }

-- one step: the interval that ends first is passed
step_test : (m wp p wq q : Bool) → (wp ≡ true → q ≡ false) → ((m || (wp && wq)) || (p && (wq || q))) ≡ (m || ((wp || p) && (wq || q)))
step_test true wp p wq q h = refl
step_test false false p wq q h = refl
step_test false true p true q h = refl
step_test false true true false q h = refl
step_test false true false false q h = sym (h refl)

pub step_left : (ps qs ms new rest other : List (ℤ × ℤ)) (p q : ℤ × ℤ) → RisesFrom (negsuc (2 ^ 62 - 1)) (p ∷ rest) → RisesFrom (negsuc (2 ^ 62 - 1)) (q ∷ other) → p.1 ≤ℤ q.1
    → Adds p q ms new → SharedSoFar ps qs ms (p ∷ rest) (q ∷ other) → SharedSoFar ps qs new rest (q ∷ other)
step_left ps qs ms new rest other p q up uq l a h = record {
  rising = a.rising;
  values = λ x.
      ap (λ b. b || (is_among rest x && (within x q || is_among other x))) (a.values x)
      ∙ step_test (is_among ms x) (within x p) (is_among rest x) (within x q) (is_among other x)
      (λ w. test_false (is_among other x) (λ e. absurd (let c = within_high x p w in let d = above_low (q.1 +ℤ pos 1) x other uq.3 e in omega (arith, ints))))
      ∙ h.values x;
  apart = λ x y e f g.
      let d = above_low (p.1 +ℤ pos 1) y rest up.3 f in
      elim (or_cases (is_among ms x) (within x p && within x q) (sym (a.values x) ∙ e)) [
        | inl w ↦ h.apart x y w (or_right (within y p) (is_among rest y) f) g
        | inr w ↦ (let c = within_high x p (first_of_both (within x p) (within x q) w) in omega (arith, ints))
      ];
}

adds_swap : (p q : ℤ × ℤ) (ms new : List (ℤ × ℤ)) → Adds p q ms new → Adds q p ms new
adds_swap p q ms new a = record { rising = a.rising; values = λ x. a.values x ∙ ap (λ b. is_among ms x || b) (and_swap (within x p) (within x q)) }

pub step_right : (ps qs ms new rest other : List (ℤ × ℤ)) (p q : ℤ × ℤ) → RisesFrom (negsuc (2 ^ 62 - 1)) (p ∷ rest) → RisesFrom (negsuc (2 ^ 62 - 1)) (q ∷ other) → q.1 ≤ℤ p.1
    → Adds p q ms new → SharedSoFar ps qs ms (p ∷ rest) (q ∷ other) → SharedSoFar ps qs new (p ∷ rest) other
step_right ps qs ms new rest other p q up uq l a h =
    shared_swap qs ps new other (p ∷ rest) (step_left qs ps ms new other rest q p uq up l (adds_swap p q ms new a) (shared_swap ps qs ms (p ∷ rest) (q ∷ other) h))

-- the intervals from an index on rise
pub rising_drop : (low : ℤ) (ps : List (ℤ × ℤ)) (i : ℕ) → RisesFrom low ps → RisesFrom low (drop i ps)
rising_drop low [] zero h = tt
rising_drop low [] (suc i) h = tt
rising_drop low (p ∷ ps) zero h = h
rising_drop low (p ∷ ps) (suc i) h = rising_lower (p.1 +ℤ pos 1) low (drop i ps) (let a = h.0 in let b = h.1 in omega (arith, ints)) (rising_drop (p.1 +ℤ pos 1) ps i h.3)

-- two rising lists are the same, or some number lies in one alone
pub data Compared (ps qs : List (ℤ × ℤ)) : Type 0 where
  same : ps ≡ qs → Compared ps qs
  differ : (x : ℤ) → is_among ps x ≡ not (is_among qs x) → Compared ps qs

in_first : (p : ℤ × ℤ) (ps : List (ℤ × ℤ)) (x : ℤ) → p.0 ≤ℤ x → x ≤ℤ p.1 → is_among (p ∷ ps) x ≡ true
in_first p ps x a b = or_true_left (within x p) (is_among ps x) (is_within x p a b)

none_below : (low x : ℤ) (ps : List (ℤ × ℤ)) → RisesFrom low ps → x ≤ℤ low → is_among ps x ≡ false
none_below low x ps h l = test_false (is_among ps x) (λ e. absurd (let a = above_low low x ps h e in omega (arith, ints)))

past_first : (p : ℤ × ℤ) (ps : List (ℤ × ℤ)) (x : ℤ) → p.1 <ℤ x → is_among (p ∷ ps) x ≡ is_among ps x
past_first p ps x h = ap (λ b. b || is_among ps x) (test_false (within x p) (λ e. absurd (let a = within_high x p e in omega (arith, ints))))

before_first : (p : ℤ × ℤ) (ps : List (ℤ × ℤ)) (x : ℤ) → RisesFrom (p.1 +ℤ pos 1) ps → x <ℤ p.0 → p.0 ≤ℤ p.1 → is_among (p ∷ ps) x ≡ false
before_first p ps x h l o =
    ap (λ b. b || is_among ps x) (test_false (within x p) (λ e. absurd (let a = within_low x p e in omega (arith, ints))))
    ∙ none_below (p.1 +ℤ pos 1) x ps h (omega (arith, ints))

pub same_pair : (p q : ℤ × ℤ) → p.0 ≡ q.0 → p.1 ≡ q.1 → p ≡ q
same_pair p q a b = pair_same p.0 p.1 q.0 q.1 a b

opposed : (a b : Bool) → a ≡ true → b ≡ false → a ≡ not b
opposed a b e f = e ∙ ap not (sym f)

opposed_back : (a b : Bool) → a ≡ false → b ≡ true → a ≡ not b
opposed_back a b e f = e ∙ ap not (sym f)

by_order : (C : Type 0) (a b : ℤ) → (a <ℤ b → C) → (a ≡ b → C) → (b <ℤ a → C) → C
by_order C a b f g h = by_lt_z a b f (λ l. by_lt_z b a h (λ k. g (omega (arith, ints))))

heads_compared : (low : ℤ) (p q : ℤ × ℤ) (ps qs : List (ℤ × ℤ)) → RisesFrom low (p ∷ ps) → RisesFrom low (q ∷ qs) → (p ≡ q → Compared (p ∷ ps) (q ∷ qs)) → Compared (p ∷ ps) (q ∷ qs)
heads_compared low p q ps qs h k same_heads =
    by_order (Compared (p ∷ ps) (q ∷ qs)) p.0 q.0
    (λ l. differ p.0 (opposed _ _ (in_first p ps p.0 (omega (arith, ints)) h.1) (before_first q qs p.0 k.3 l k.1)))
    (λ e. by_order (Compared (p ∷ ps) (q ∷ qs)) p.1 q.1
    (λ l. differ (p.1 +ℤ pos 1) (let o = h.1 in opposed_back _ _ (past_first p ps (p.1 +ℤ pos 1) (omega (arith, ints)) ∙ none_below (p.1 +ℤ pos 1) (p.1 +ℤ pos 1) ps h.3 (omega (arith, ints))) (in_first q qs (p.1 +ℤ pos 1) (omega (arith, ints)) (omega (arith, ints)))))
    (λ f. same_heads (same_pair p q e f))
    (λ l. differ (q.1 +ℤ pos 1) (let o = k.1 in opposed _ _ (in_first p ps (q.1 +ℤ pos 1) (omega (arith, ints)) (omega (arith, ints))) (past_first q qs (q.1 +ℤ pos 1) (omega (arith, ints)) ∙ none_below (q.1 +ℤ pos 1) (q.1 +ℤ pos 1) qs k.3 (omega (arith, ints))))))
    (λ l. differ q.0 (opposed_back _ _ (before_first p ps q.0 h.3 l h.1) (in_first q qs q.0 (omega (arith, ints)) k.1)))

past_both : (p q : ℤ × ℤ) (ps qs : List (ℤ × ℤ)) (x : ℤ) → p ≡ q → RisesFrom (p.1 +ℤ pos 1) ps → RisesFrom (q.1 +ℤ pos 1) qs → is_among ps x ≡ not (is_among qs x) → is_among (p ∷ ps) x ≡ not (is_among (q ∷ qs) x)
past_both p q ps qs x e h k d =
    let f = ap (λ (r : ℤ × ℤ). r.1) e in
    by_lt_z p.1 x
    (λ l. past_first p ps x l ∙ d ∙ ap not (sym (past_first q qs x (omega (arith, ints)))))
    (λ l. absurd (true≢false (sym (ap not (none_below (q.1 +ℤ pos 1) x qs k (omega (arith, ints)))) ∙ sym d ∙ none_below (p.1 +ℤ pos 1) x ps h (omega (arith, ints)))))

pub compared : (low : ℤ) (ps qs : List (ℤ × ℤ)) → RisesFrom low ps → RisesFrom low qs → Compared ps qs
compared low [] [] h k = same refl
compared low [] (q ∷ qs) h k = differ q.0 (opposed_back _ _ refl (in_first q qs q.0 (omega (arith, ints)) k.1))
compared low (p ∷ ps) [] h k = differ p.0 (opposed _ _ (in_first p ps p.0 (omega (arith, ints)) h.1) refl)
compared low (p ∷ ps) (q ∷ qs) h k =
    heads_compared low p q ps qs h k (λ e.
    let k' = subst (λ (r : ℤ × ℤ). RisesFrom (r.1 +ℤ pos 1) qs) (sym e) k.3 in
    elim (compared (p.1 +ℤ pos 1) ps qs h.3 k') [
      | same f ↦ same (ap (λ r. r ∷ ps) e ∙ ap (λ rs. q ∷ rs) f)
      | differ x d ↦ differ x (past_both p q ps qs x e h.3 k.3 d)
    ])

-- what the code's `==` says of two lists of intervals
pub pair_Decides : (p q : ℤ × ℤ) → Decides (int_eq p.0 q.0 && int_eq p.1 q.1) (p ≡ q)
pair_Decides p q =
    Decides-like (int_eq p.0 q.0 && int_eq p.1 q.1) (λ e. same_pair p q e.0 e.1) (λ e. (ap (λ (r : ℤ × ℤ). r.0) e, ap (λ (r : ℤ × ℤ). r.1) e))
    (Decides-and (int_eq p.0 q.0) (int_eq p.1 q.1) (Decides-int_eq p.0 q.0) (Decides-int_eq p.1 q.1))

-- a step of the walk, by places in the two lists
record IsAt (ps : List (ℤ × ℤ)) (i : ℕ) : Type 0 where
  pub whole : drop i ps ≡ get_or ps i (pos 0, pos 0) ∷ drop (i + 1) ps
  pub rising : RisesFrom (negsuc (2 ^ 62 - 1)) (get_or ps i (pos 0, pos 0) ∷ drop (i + 1) ps)

is_at : (ps : List (ℤ × ℤ)) (i : ℕ) → i < length ps → RisesFrom (negsuc (2 ^ 62 - 1)) ps → IsAt ps i
is_at ps i l h =
    let e = drop-cons ps i (pos 0, pos 0) l ∙ ap (λ j. get_or ps i (pos 0, pos 0) ∷ drop j ps) (let s : suc i ≡ i + 1 = omega arith in s) in
    record { whole = e; rising = subst (λ qs. RisesFrom (negsuc (2 ^ 62 - 1)) qs) e (rising_drop (negsuc (2 ^ 62 - 1)) ps i h) }

at_both : (ps qs ms rest rest' other other' : List (ℤ × ℤ)) → rest ≡ rest' → other ≡ other' → SharedSoFar ps qs ms rest other → SharedSoFar ps qs ms rest' other'
at_both ps qs ms rest rest' other other' e f h = subst (λ o. SharedSoFar ps qs ms rest' o) f (subst (λ r. SharedSoFar ps qs ms r other) e h)

pub walk_left : (ps qs ms new : List (ℤ × ℤ)) (i j : ℕ) → i < length ps → j < length qs → RisesFrom (negsuc (2 ^ 62 - 1)) ps → RisesFrom (negsuc (2 ^ 62 - 1)) qs
    → (get_or ps i (pos 0, pos 0)).1 ≤ℤ (get_or qs j (pos 0, pos 0)).1 → AddsShared (get_or ps i (pos 0, pos 0)) (get_or qs j (pos 0, pos 0)) ms new
    → SharedSoFar ps qs ms (drop i ps) (drop j qs) → SharedSoFar ps qs new (drop (i + 1) ps) (drop j qs)
walk_left ps qs ms new i j l k h g e a s =
    let x = is_at ps i l h in let y = is_at qs j k g in
    let s' = at_both ps qs ms _ _ _ _ x.whole y.whole s in
    at_both ps qs new _ _ _ _ (let same : drop (i + 1) ps ≡ drop (i + 1) ps = refl in same) (sym y.whole)
    (step_left ps qs ms new (drop (i + 1) ps) (drop (j + 1) qs) _ _ x.rising y.rising e (adds ps qs ms new (drop (i + 1) ps) (drop (j + 1) qs) _ _ x.rising s' a) s')

pub walk_right : (ps qs ms new : List (ℤ × ℤ)) (i j : ℕ) → i < length ps → j < length qs → RisesFrom (negsuc (2 ^ 62 - 1)) ps → RisesFrom (negsuc (2 ^ 62 - 1)) qs
    → (get_or qs j (pos 0, pos 0)).1 ≤ℤ (get_or ps i (pos 0, pos 0)).1 → AddsShared (get_or ps i (pos 0, pos 0)) (get_or qs j (pos 0, pos 0)) ms new
    → SharedSoFar ps qs ms (drop i ps) (drop j qs) → SharedSoFar ps qs new (drop i ps) (drop (j + 1) qs)
walk_right ps qs ms new i j l k h g e a s =
    let x = is_at ps i l h in let y = is_at qs j k g in
    let s' = at_both ps qs ms _ _ _ _ x.whole y.whole s in
    at_both ps qs new _ _ _ _ (sym x.whole) (let same : drop (j + 1) qs ≡ drop (j + 1) qs = refl in same)
    (step_right ps qs ms new (drop (i + 1) ps) (drop (j + 1) qs) _ _ x.rising y.rising e (adds ps qs ms new (drop (i + 1) ps) (drop (j + 1) qs) _ _ x.rising s' a) s')

past_end : (ps : List (ℤ × ℤ)) (i : ℕ) → length ps ≤ i → drop i ps ≡ []
past_end [] zero l = refl
past_end [] (suc i) l = refl
past_end (p ∷ ps) zero l = absurd (omega (arith, l))
past_end (p ∷ ps) (suc i) l = past_end ps i (omega (arith, l))

-- the end of the walk
pub end_left : (ps qs ms : List (ℤ × ℤ)) (i j : ℕ) → length ps ≤ i → SharedSoFar ps qs ms (drop i ps) (drop j qs) → AreShared ps qs ms
end_left ps qs ms i j l s = shared_left ps qs ms (drop j qs) (subst (λ r. SharedSoFar ps qs ms r (drop j qs)) (past_end ps i l) s)

pub end_right : (ps qs ms : List (ℤ × ℤ)) (i j : ℕ) → length qs ≤ j → SharedSoFar ps qs ms (drop i ps) (drop j qs) → AreShared ps qs ms
end_right ps qs ms i j l s = shared_right ps qs ms (drop i ps) (subst (λ r. SharedSoFar ps qs ms (drop i ps) r) (past_end qs j l) s)
