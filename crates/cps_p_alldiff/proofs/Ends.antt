-- The ends of what subjects can be now, and what they say of the store.
use Rattle.std.proofs.Common.{ℕ, zero, suc, ◌+◌, ◌<◌, ◌≤◌, ℤ, ◌-ℤ◌, ◌≤ℤ◌, ◌≡◌, ◌≢◌, inl, inr, true, cond, List, [], ◌∷◌, ◌++◌, length, get_or, take, refl, sym, ◌∙◌, ap, subst, arith}
use Rattle.std.specs.Prelude.{unsigned_abs}
use Rattle.std.specs.List.{All, AllPairs, AllZip}
use Rattle.std.proofs.lemmas.Int.{ints}
use Rattle.std.proofs.lemmas.List.{take_more}
use Rattle.std.proofs.lemmas.List.Elements.{All-nil, All-cons}
use Rattle.cps_domain.specs.Window.{Window, contains, width}
use Rattle.cps_literal.specs.Truth.{value_at}
use Rattle.cps_trail.specs.Trail.{Trail, admits}
use Rattle.cps_instance.specs.declared.task.Body.TheVariants.{AllDiff}
use Rattle.cps_rule.specs.Rules.{IsAtRest}
use Rattle.cps_propagate.specs.Now.{IsFixedNow, AreOpen}
use Rattle.cps_propagate.specs.Strength.{IsHeld, AreHeld, HasRoom}
use Rattle.cps_p_alldiff.specs.declared.interval.Interval.{Interval}
use Rattle.cps_p_alldiff.specs.Intervals.{covers, covered, IsInRange, AreEnds, IsRoomy, IsEnclosed, IsTightInterval, AreEnclosed, AreTightIntervals}
use Rattle.cps_p_alldiff.proofs.IntervalCounts.{is_covered, count_cons}
use Rattle.cps_p_alldiff.proofs.Bodies.{all_different}

zip_push : {A B : Type 0} (R : A → B → Type 0) (xs : List A) (ys : List B) (x : A) (y : B) → AllZip R xs ys → R x y → AllZip R (xs ++ x ∷ []) (ys ++ y ∷ [])
zip_push R [] [] x y h r = (r, tt)
zip_push R [] (b ∷ ys) x y h r = absurd h
zip_push R (a ∷ xs) [] x y h r = absurd h
zip_push R (a ∷ xs) (b ∷ ys) x y h r = (h.0, zip_push R xs ys x y h.1 r)

zip_weaker : {A B : Type 0} (R S : A → B → Type 0) → ((a : A) (b : B) → R a b → S a b) → (xs : List A) (ys : List B) → AllZip R xs ys → AllZip S xs ys
zip_weaker R S w [] [] h = tt
zip_weaker R S w [] (b ∷ ys) h = absurd h
zip_weaker R S w (a ∷ xs) [] h = absurd h
zip_weaker R S w (a ∷ xs) (b ∷ ys) h = (w a b h.0, zip_weaker R S w xs ys h.1)

-- one more subject was measured
pub AreTightIntervals-more : (s : Trail) (is : List ℕ) (es : List Interval) (k : ℕ) (w : Window) (low high : ℤ) → k < length is → ((x : ℤ) → contains w x ≡ admits s.first s.entries (get_or is k 0) x)
    → contains w low ≡ true → ((x : ℤ) → contains w x ≡ true → low ≤ℤ x) → contains w high ≡ true → ((x : ℤ) → contains w x ≡ true → x ≤ℤ high) → IsInRange (record { low = low; high = high })
    → AreTightIntervals s (take k is) es → AreTightIntervals s (take (k + 1) is) (es ++ record { low = low; high = high } ∷ [])
AreTightIntervals-more s is es k w low high l shown a least b greatest range h =
    let one : IsTightInterval s (get_or is k 0) (record { low = low; high = high }) = record {
      bounded = record { least = λ x o. least x (shown x ∙ o); greatest = λ x o. greatest x (shown x ∙ o) };
      low = sym (shown low) ∙ a;
      high = sym (shown high) ∙ b;
      range = range;
    } in
    subst (λ js. AreTightIntervals s js (es ++ record { low = low; high = high } ∷ [])) (sym (take_more is k 0 l)) (zip_push (IsTightInterval s) (take k is) es (get_or is k 0) (record { low = low; high = high }) h one)

pub hulls_bound : (s : Trail) (is : List ℕ) (es : List Interval) → AreTightIntervals s is es → AreEnclosed s is es
hulls_bound s is es h = zip_weaker (IsTightInterval s) (IsEnclosed s) (λ i e k. k.bounded) is es h

pub hulls_ends : (s : Trail) (is : List ℕ) (es : List Interval) → AreTightIntervals s is es → All AreEnds es
hulls_ends s [] [] h = All-nil AreEnds
hulls_ends s [] (e ∷ es) h = absurd h
hulls_ends s (i ∷ is) [] h = absurd h
hulls_ends s (i ∷ is) (e ∷ es) h = All-cons AreEnds e es (record { range = h.0.range; ordered = h.0.bounded.least e.high h.0.high }) (hulls_ends s is es h.1)

-- positions that are held have ends that are covered
held_covered : (s : Trail) (low high : ℤ) (n : ℕ) (is : List ℕ) (es : List Interval) → AreTightIntervals s is es → AreHeld s low high n is → n ≤ covered (record { low = low; high = high }) es
held_covered s low high zero is es h k = omega arith
held_covered s low high (suc n) [] es h k = absurd k
held_covered s low high (suc n) (i ∷ is) [] h k = absurd h
held_covered s low high (suc n) (i ∷ is) (e ∷ es) h (inl k) =
    let g : Interval = record { low = low; high = high } in
    let here : covers g e ≡ true = is_covered g e (k.0 e.low h.0.low).0 (k.0 e.high h.0.high).1 in
    let rest = held_covered s low high n is es h.1 k.1 in
    omega (arith, count_cons (covers g) e es ∙ ap (λ b. cond b 1 0 + covered g es) here)
held_covered s low high (suc n) (i ∷ is) (e ∷ es) h (inr k) =
    let g : Interval = record { low = low; high = high } in
    let rest = held_covered s low high (suc n) is es h.1 k in
    omega (arith, count_cons (covers g) e es)

pub HasRoom-hulls : (s : Trail) (is : List ℕ) (es : List Interval) → AreTightIntervals s is es → IsRoomy es → HasRoom s is
HasRoom-hulls s is es h r = record {
  room = λ low high n o k.
      let a = held_covered s low high n is es h k in
      let b = r.room (record { low = low; high = high }) o in
      omega arith;
}

-- two positions that are held
one_held : (s : Trail) (low high : ℤ) (is : List ℕ) (k d : ℕ) → k < length is → IsHeld s low high (get_or is k d) → AreHeld s low high 1 is
one_held s low high [] k d l h = absurd (omega arith)
one_held s low high (i ∷ is) zero d l h = inl (h, tt)
one_held s low high (i ∷ is) (suc k) d l h = inr (one_held s low high is k d (omega arith) h)

two_held : (s : Trail) (low high : ℤ) (is : List ℕ) (j k d : ℕ) → j < k → k < length is → IsHeld s low high (get_or is j d) → IsHeld s low high (get_or is k d) → AreHeld s low high 2 is
two_held s low high [] j k d l m h g = absurd (omega arith)
two_held s low high (i ∷ is) zero zero d l m h g = absurd (omega arith)
two_held s low high (i ∷ is) zero (suc k) d l m h g = inl (h, one_held s low high is k d (omega arith) g)
two_held s low high (i ∷ is) (suc j) zero d l m h g = absurd (omega arith)
two_held s low high (i ∷ is) (suc j) (suc k) d l m h g = inr (two_held s low high is j k d (omega arith) (omega arith) h g)

-- fixed subjects with room have different values
apart_fixed : (s : Trail) (is : List ℕ) (xs : List ℤ) → HasRoom s is → All (IsFixedNow s) is → AreOpen s xs is → AllPairs (λ i j. value_at xs i ≢ value_at xs j) is
apart_fixed s is xs room fixed opens i j d l m same =
    let v = value_at xs (get_or is i d) in
    let held : (k : ℕ) → k < length is → value_at xs (get_or is k d) ≡ v → IsHeld s v v (get_or is k d) = λ k b e x o.
    let is_v : x ≡ v = fixed k d b x (value_at xs (get_or is k d)) o (opens k d b) ∙ e in
    (omega (arith, ints), omega (arith, ints)) in
    let two = room.room v v 2 (omega (arith, ints)) (two_held s v v is i j d l m (held i (omega arith) refl) (held j m (sym same))) in
    let one : width (v, v) ≡ 1 = one_wide v in
    omega arith
  where
    one_wide : (v : ℤ) → width (v, v) ≡ 1
    one_wide v = let e : unsigned_abs (v -ℤ v) ≡ 0 = omega (arith, ints) in omega arith

-- room is all that rest asks
pub rests : (s : Trail) (is : List ℕ) → HasRoom s is → IsAtRest (AllDiff is) s
rests s is room = record { decided = λ fixed xs opens. all_different xs is (apart_fixed s is xs room fixed opens); strong = room }
