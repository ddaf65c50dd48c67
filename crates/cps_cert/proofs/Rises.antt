-- How many numbers pass a test: the count is one, and that of a domain is its size.
use Rattle.std.specs.Prelude.{Contains, ◌&&◌, ◌||◌, int_le, int_lt}
use Rattle.std.proofs.Common.{◌≡◌, ℕ, zero, suc, ◌+◌, ◌<◌, ◌≤◌, List, [], ◌∷◌, ◌++◌, length, get_or, Bool, true, false, ◌⊎◌, inl, inr, refl, sym, ◌∙◌, subst, arith, ℤ, pos, ◌+ℤ◌, ◌<ℤ◌, ◌≤ℤ◌}
use Rattle.std.proofs.lemmas.Bool.{cases_lt}
use Rattle.std.proofs.lemmas.Int.{ints}
use Rattle.std.proofs.lemmas.List.{get_or_read, length-append}
use Rattle.std.proofs.lemmas.List.Elements.{Contains-get_or, Contains-append_left, Contains-append_right, Contains-append_cases}
use Rattle.cps_model.specs.Rising.{IsRising}
use Rattle.cps_model.proofs.Tests.{and_true}
use Rattle.cps_domain.specs.Window.{Window, intervals, within, is_among, contains, RisesFrom, IsDomain, width, size_of}
use Rattle.cps_cert.specs.Counting.{HasCount}

-- ---- there is one count

number_at : (ys : List ℤ) (x : ℤ) (c : Contains ys x) → get_or ys c.0 (pos 0) ≡ x
number_at ys x c = sym (get_or_read ys c.0 x c.1 (sym c.2) (pos 0))

-- a greater number stands further back
not_equal : (ys : List ℤ) (p q : ℕ) (x y : ℤ) → get_or ys p (pos 0) ≡ x → get_or ys q (pos 0) ≡ y → x <ℤ y → p ≡ q → ⊥
not_equal ys p q x y ep eq less same =
    let equal : x ≡ y = sym ep ∙ subst (λ (k : ℕ). get_or ys k (pos 0) ≡ y) (sym same) eq in
    grind (arith, ints)

not_before : (ys : List ℤ) (p q : ℕ) (x y : ℤ) → IsRising ys → p < length ys → get_or ys p (pos 0) ≡ x → get_or ys q (pos 0) ≡ y → x <ℤ y → q < p → ⊥
not_before ys p q x y r lp ep eq less c =
    let turned : get_or ys q (pos 0) <ℤ get_or ys p (pos 0) = r q p c lp in
    let other : y <ℤ x = rw (← ep, ← eq) turned in
    omega (arith, ints)

behind_by : (p q : ℕ) → (q < p → ⊥) → (p ≡ q → ⊥) → (p < q) ⊎ (q ≤ p) → (q < p) ⊎ (p ≤ q) → p + 1 ≤ q
behind_by p q not_less not_same (inl c) d = omega arith
behind_by p q not_less not_same (inr c) (inl d) = absurd (not_less d)
behind_by p q not_less not_same (inr c) (inr d) = absurd (not_same (omega arith))

stands_behind : (ys : List ℤ) (p q : ℕ) (x y : ℤ) → IsRising ys → p < length ys → get_or ys p (pos 0) ≡ x → get_or ys q (pos 0) ≡ y → x <ℤ y → p + 1 ≤ q
stands_behind ys p q x y r lp ep eq less =
    behind_by p q (not_before ys p q x y r lp ep eq less) (not_equal ys p q x y ep eq less) (cases_lt p q) (cases_lt q p)

-- the place of a number of one rising list in another that has all its numbers
record StandsAt (xs ys : List ℤ) (i : ℕ) : Type 0 where
  place : ℕ
  behind : i ≤ place
  inside : place < length ys
  same : get_or ys place (pos 0) ≡ get_or xs i (pos 0)

place_of : (xs ys : List ℤ) → IsRising xs → IsRising ys → ((x : ℤ) → Contains xs x → Contains ys x) → (i : ℕ) → i < length xs → StandsAt xs ys i
place_of xs ys rx ry sub zero l =
    let c = sub (get_or xs 0 (pos 0)) (Contains-get_or xs 0 (pos 0) l) in
    record { place = c.0; behind = omega arith; inside = c.1; same = number_at ys _ c }
place_of xs ys rx ry sub (suc i) l =
    let before = place_of xs ys rx ry sub i (omega arith) in
    let c = sub (get_or xs (suc i) (pos 0)) (Contains-get_or xs (suc i) (pos 0) l) in
    let less : get_or xs i (pos 0) <ℤ get_or xs (suc i) (pos 0) = rx i (suc i) (omega arith) l in
    let next : before.place + 1 ≤ c.0 = stands_behind ys before.place c.0 _ _ ry before.inside before.same (number_at ys _ c) less in
    let behind = before.behind in
    record { place = c.0; behind = omega arith; inside = c.1; same = number_at ys _ c }

no_longer : (xs ys : List ℤ) → IsRising xs → IsRising ys → ((x : ℤ) → Contains xs x → Contains ys x) → (n : ℕ) → length xs ≡ n → n ≤ length ys
no_longer xs ys rx ry sub zero e = omega arith
no_longer xs ys rx ry sub (suc n) e =
    let last = place_of xs ys rx ry sub n (omega arith) in
    let behind = last.behind in
    let inside = last.inside in
    omega arith

count_below : (admits : ℤ → Bool) (k m : ℕ) → HasCount admits k → HasCount admits m → k ≤ m
count_below admits k m p q =
    let e = p.count in
    let f = q.count in
    let l = no_longer p.values q.values p.rising q.rising (λ x c. (q.all x).0 ((p.all x).1 c)) (length p.values) refl in
    omega arith

pub count_same : (admits : ℤ → Bool) (k m : ℕ) → HasCount admits k → HasCount admits m → k ≡ m
count_same admits k m p q =
    let a = count_below admits k m p q in
    let b = count_below admits m k q p in
    omega arith

-- where a number passes, the count is not 0
pub count_some : (admits : ℤ → Bool) (k : ℕ) (x : ℤ) → HasCount admits k → admits x ≡ true → 1 ≤ k
count_some admits k x h e =
    let c = (h.all x).0 e in
    let l = c.1 in
    let n = h.count in
    omega arith

by_test : (a b : ℤ) (t : Bool) → int_lt a b ≡ t → (a <ℤ b) ⊎ (b ≤ℤ a)
by_test a b true e = inl (grind (arith, ints))
by_test a b false e = inr (grind (arith, ints))

is_below : (a b : ℤ) → int_le a b ≡ true → a ≤ℤ b
is_below a b e = grind (arith, ints)

below_is : (a b : ℤ) → a ≤ℤ b → int_le a b ≡ true
below_is a b l = grind (arith, ints)

either : (a b : Bool) → b ≡ true → (a || b) ≡ true
either true b e = refl
either false b e = e

both_hold : (a b : Bool) → a ≡ true → b ≡ true → (a && b) ≡ true
both_hold a b p q = rw (p, q) refl

first_by : (y : ℤ) (ys : List ℤ) (x : ℤ) (k : ℕ) → k < length (y ∷ ys) → get_or (y ∷ ys) k x ≡ x → (y ≡ x) ⊎ Contains ys x
first_by y ys x zero l e = inl e
first_by y ys x (suc k) l e = inr (k, omega arith, e)

-- ---- lists that rise from a number on

RisesAbove : ℤ → List ℤ → Type 0
RisesAbove low [] = Unit {0}
RisesAbove low (x ∷ xs) = (low ≤ℤ x) × RisesAbove (x +ℤ pos 1) xs

above_lower : (low x : ℤ) (xs : List ℤ) → x ≤ℤ low → RisesAbove low xs → RisesAbove x xs
unfolding RisesAbove
above_lower low x [] l r = tt
above_lower low x (y ∷ ys) l r = ((let m = r.0 in grind (arith, ints)), r.1)

above_at : (low : ℤ) (xs : List ℤ) (i : ℕ) → RisesAbove low xs → i < length xs → low ≤ℤ get_or xs i (pos 0)
unfolding RisesAbove
above_at low [] i r l = absurd (omega arith)
above_at low (x ∷ xs) zero r l = r.0
above_at low (x ∷ xs) (suc i) r l =
    let first = r.0 in
    let next = above_at (x +ℤ pos 1) xs i r.1 (omega arith) in
    grind (arith, ints)

rising_above : (low : ℤ) (xs : List ℤ) → RisesAbove low xs → IsRising xs
unfolding RisesAbove
rising_above low [] r i j l m = absurd (omega arith)
rising_above low (x ∷ xs) r zero zero l m = absurd (omega arith)
rising_above low (x ∷ xs) r zero (suc j) l m =
    let next = above_at (x +ℤ pos 1) xs j r.1 (omega arith) in
    grind (arith, ints)
rising_above low (x ∷ xs) r (suc i) zero l m = absurd (omega arith)
rising_above low (x ∷ xs) r (suc i) (suc j) l m = rising_above (x +ℤ pos 1) xs r.1 i j (omega arith) (omega arith)

-- ---- the values of intervals

-- so many numbers from one on
run : ℤ → ℕ → List ℤ
run low zero = []
run low (suc n) = low ∷ run (low +ℤ pos 1) n

values : List (ℤ × ℤ) → List ℤ
values [] = []
values (p ∷ ps) = run p.0 (width p) ++ values ps

length-run : (low : ℤ) (n : ℕ) → length (run low n) ≡ n
unfolding run
length-run low zero = refl
length-run low (suc n) = let e = length-run (low +ℤ pos 1) n in omega arith

length-values : (ps : List (ℤ × ℤ)) → length (values ps) ≡ size_of ps
unfolding values
length-values [] = refl
length-values (p ∷ ps) = let e = length-run p.0 (width p) in let f = length-values ps in simp length-append (omega arith)

run_above : (low : ℤ) (n : ℕ) (ys : List ℤ) → RisesAbove (low +ℤ pos n) ys → RisesAbove low (run low n ++ ys)
unfolding run RisesAbove
run_above low zero ys r = above_lower (low +ℤ pos 0) low ys (omega (arith, ints)) r
run_above low (suc n) ys r = (
  omega (arith, ints),
  run_above (low +ℤ pos 1) n ys (above_lower (low +ℤ pos (suc n)) ((low +ℤ pos 1) +ℤ pos n) ys (omega (arith, ints)) r),
)

values_above : (low : ℤ) (ps : List (ℤ × ℤ)) → RisesFrom low ps → RisesAbove (low +ℤ pos 1) (values ps)
unfolding values RisesAbove
values_above low [] r = tt
values_above low (p ∷ ps) r =
    let rest = values_above (p.1 +ℤ pos 1) ps r.3 in
    let above = r.0 in
    let ordered = r.1 in
    let behind = above_lower ((p.1 +ℤ pos 1) +ℤ pos 1) (p.0 +ℤ pos (width p)) (values ps) (grind (arith, ints)) rest in
    above_lower p.0 (low +ℤ pos 1) (run p.0 (width p) ++ values ps) (grind (arith, ints)) (run_above p.0 (width p) (values ps) behind)

int_cases : (a b : ℤ) → (a <ℤ b) ⊎ (b ≤ℤ a)
int_cases a b = by_test a b (int_lt a b) refl

in_run_by : (low : ℤ) (ys : List ℤ) (n : ℕ) (x : ℤ) → ((low +ℤ pos 1) ≤ℤ x → x <ℤ ((low +ℤ pos 1) +ℤ pos n) → Contains ys x) → low ≤ℤ x → x <ℤ (low +ℤ pos (suc n)) → (low <ℤ x) ⊎ (x ≤ℤ low) → Contains (low ∷ ys) x
in_run_by low ys n x next l m (inl c) = Contains-append_right (low ∷ []) ys x (next (omega (arith, ints)) (omega (arith, ints)))
in_run_by low ys n x next l m (inr c) = (0, omega arith, omega (arith, ints))

in_run : (low : ℤ) (n : ℕ) (x : ℤ) → low ≤ℤ x → x <ℤ (low +ℤ pos n) → Contains (run low n) x
unfolding run
in_run low zero x l m = absurd (omega (arith, ints))
in_run low (suc n) x l m = in_run_by low (run (low +ℤ pos 1) n) n x (in_run (low +ℤ pos 1) n x) l m (int_cases low x)

record LiesFrom (low : ℤ) (n : ℕ) (x : ℤ) : Type 0 where
  above : low ≤ℤ x
  below : x <ℤ (low +ℤ pos n)

from_run_by : (low : ℤ) (n : ℕ) (ys : List ℤ) (x : ℤ) → (Contains ys x → LiesFrom (low +ℤ pos 1) n x) → (low ≡ x) ⊎ Contains ys x → LiesFrom low (suc n) x
from_run_by low n ys x next (inl e) = record { above = omega (arith, ints); below = omega (arith, ints) }
from_run_by low n ys x next (inr c) =
    let r = next c in
    let above = r.above in
    let below = r.below in
    record { above = omega (arith, ints); below = omega (arith, ints) }

first_or : (y : ℤ) (ys : List ℤ) (x : ℤ) → Contains (y ∷ ys) x → (y ≡ x) ⊎ Contains ys x
first_or y ys x c = first_by y ys x c.0 c.1 c.2

from_run : (low : ℤ) (n : ℕ) (x : ℤ) → Contains (run low n) x → LiesFrom low n x
unfolding run
from_run low zero x c = absurd (let l = c.1 in omega arith)
from_run low (suc n) x c = from_run_by low n (run (low +ℤ pos 1) n) x (from_run (low +ℤ pos 1) n x) (first_or low (run (low +ℤ pos 1) n) x c)

-- a number lies in an interval where it is one of its numbers
within_run : (p : ℤ × ℤ) (x : ℤ) → p.0 ≤ℤ p.1 → within x p ≡ true → Contains (run p.0 (width p)) x
within_run p x l e =
    let both = and_true (int_le p.0 x) (int_le x p.1) e in
    let low : p.0 ≤ℤ x = is_below p.0 x both.0 in
    let high : x ≤ℤ p.1 = is_below x p.1 both.1 in
    in_run p.0 (width p) x low (omega (arith, ints))

run_within : (p : ℤ × ℤ) (x : ℤ) → p.0 ≤ℤ p.1 → Contains (run p.0 (width p)) x → within x p ≡ true
run_within p x l c =
    let r = from_run p.0 (width p) x c in
    let low = r.above in
    let below = r.below in
    let high : x ≤ℤ p.1 = omega (arith, ints) in
    both_hold (int_le p.0 x) (int_le x p.1) (below_is p.0 x low) (below_is x p.1 high)

among_by : (p : ℤ × ℤ) (ps : List (ℤ × ℤ)) (x : ℤ) (b : Bool) → within x p ≡ b → p.0 ≤ℤ p.1 → (is_among ps x ≡ true → Contains (values ps) x) → (b || is_among ps x) ≡ true → Contains (run p.0 (width p) ++ values ps) x
among_by p ps x true e l next h = Contains-append_left (run p.0 (width p)) (values ps) x (within_run p x l e)
among_by p ps x false e l next h = Contains-append_right (run p.0 (width p)) (values ps) x (next h)

among_values : (low : ℤ) (ps : List (ℤ × ℤ)) (x : ℤ) → RisesFrom low ps → is_among ps x ≡ true → Contains (values ps) x
unfolding values
among_values low [] x r h = cc
among_values low (p ∷ ps) x r h = among_by p ps x (within x p) refl r.1 (among_values (p.1 +ℤ pos 1) ps x r.3) h

values_by : (p : ℤ × ℤ) (ps : List (ℤ × ℤ)) (x : ℤ) → p.0 ≤ℤ p.1 → (Contains (values ps) x → is_among ps x ≡ true) → Contains (run p.0 (width p)) x ⊎ Contains (values ps) x → (within x p || is_among ps x) ≡ true
values_by p ps x l next (inl c) = rw (run_within p x l c) refl
values_by p ps x l next (inr c) = either (within x p) (is_among ps x) (next c)

values_among : (low : ℤ) (ps : List (ℤ × ℤ)) (x : ℤ) → RisesFrom low ps → Contains (values ps) x → is_among ps x ≡ true
unfolding values
values_among low [] x r c = absurd (let l = c.1 in omega arith)
values_among low (p ∷ ps) x r c = values_by p ps x r.1 (values_among (p.1 +ℤ pos 1) ps x r.3) (Contains-append_cases (run p.0 (width p)) (values ps) x c)

-- a domain has as many values as its size says
pub domain_count : (d : Window) → IsDomain d → HasCount (contains d) (size_of (intervals d))
unfolding contains
domain_count d is = record {
  values = values (intervals d);
  rising = rising_above _ (values (intervals d)) (values_above _ (intervals d) is.rising);
  all = λ x. (among_values _ (intervals d) x is.rising, values_among _ (intervals d) x is.rising);
  count = length-values (intervals d);
}
