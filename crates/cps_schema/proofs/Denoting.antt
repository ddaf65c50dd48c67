-- A float is read as the whole number that it denotes, and is refused where it denotes none.
use Rattle.std.specs.List.{list_all, prefix_len}
use Rattle.std.proofs.lemmas.Bool.{cases_lt, cases_order}
use Rattle.std.proofs.lemmas.Bool.Decides.{nat_tests}
use Rattle.std.proofs.lemmas.List.{drop_all, take-append-drop, length-append, length-drop}
use Rattle.std.proofs.lemmas.List.Folds.{list_all-append}
use Rattle.std.proofs.Math.Nat.{mul_assoc, mul-le-mul_right, one-le-pow, pow-le-pow_right, pow-succ'}
use Rattle.std.proofs.Common.{◌≡◌, ℕ, zero, suc, ◌+◌, ◌-◌, ◌*◌, ◌^◌, ◌<◌, ◌≤◌, inl, inr, List, [], ◌∷◌, ◌++◌, length, take, drop, Bool, true, false, ◌&&◌, if◌then◌else◌, Some, None, refl, sym, ap, ◌∙◌, arith, pow-add}
use Rattle.cps_lex.specs.Bytes.{is_digit}
use Rattle.cps_schema.specs.Digits.{digit_value, digits_after, decimal_value}
use Rattle.cps_schema.specs.Floats.{leading_digits, past_digits, past_point, whole_digits, fraction_digits, exponent_text, raised, lowered, moved, Denotes, is_zero, with_point, float_value}
use Rattle.cps_schema.proofs.Decimals.{digits_after-append}

-- digits

digit_low : (c : ℕ) → is_digit c ≡ true → digit_value c < 10
unfolding is_digit digit_value
digit_low c h = grind (arith, nat_tests)

zero_digit : (c : ℕ) → is_zero c ≡ true → digit_value c ≡ 0
unfolding digit_value
zero_digit c h = grind (arith, nat_tests)

some_digit : (c : ℕ) → is_digit c ≡ true → is_zero c ≡ false → 1 ≤ digit_value c
unfolding is_digit digit_value
some_digit c h z = grind (arith, nat_tests)

both : (a b : Bool) → (a && b) ≡ true → (a ≡ true) × (b ≡ true)
both true b e = (refl, e)
both false b e = cc

-- powers of ten

more_power : (n k : ℕ) → n * 10 ^ suc k ≡ n * 10 * 10 ^ k
more_power n k = ap (λ x. n * x) (pow-succ' 10 k) ∙ sym (mul_assoc n 10 (10 ^ k))

powers : (n j k : ℕ) → n * 10 ^ j * 10 ^ k ≡ n * 10 ^ (j + k)
powers n j k = mul_assoc n (10 ^ j) (10 ^ k) ∙ ap (λ x. n * x) (sym (pow-add 10 j k))

some_power : (k : ℕ) → 1 ≤ 10 ^ k
some_power k = one-le-pow k 10 (omega arith)

times_more : (n p : ℕ) → (n + 1) * p ≡ n * p + p
times_more n p = grind arith

cancel : (m n k : ℕ) → m * 10 ^ k ≡ n * 10 ^ k → m ≡ n
cancel m n k e = elim (cases_order m n) [
  | inl same ↦ same
  | inr apart ↦ elim apart [
    | inl less ↦ absurd (omega (arith, e, some_power k, times_more m (10 ^ k), mul-le-mul_right {m = m + 1} {n = n} (10 ^ k) (omega arith)))
    | inr more ↦ absurd (omega (arith, e, some_power k, times_more n (10 ^ k), mul-le-mul_right {m = n + 1} {n = m} (10 ^ k) (omega arith)))
  ]
]

-- what digits write behind a number lies between these

least : (n : ℕ) (ds : List ℕ) → n * 10 ^ length ds ≤ digits_after 10 n ds
least n [] = omega arith
least n (c ∷ cs) =
    let m = n * 10 + digit_value c in
    omega (arith, least m cs, more_power n (length cs), mul-le-mul_right {m = n * 10} {n = m} (10 ^ length cs) (omega arith))

greatest : (n : ℕ) (ds : List ℕ) → list_all is_digit ds ≡ true → digits_after 10 n ds < (n + 1) * 10 ^ length ds
greatest n [] digits = omega arith
greatest n (c ∷ cs) digits =
    let parts = both (is_digit c) (list_all is_digit cs) digits in
    let m = n * 10 + digit_value c in
    let low = digit_low c parts.0 in
    omega (arith, greatest m cs parts.1, more_power (n + 1) (length cs), mul-le-mul_right {m = m + 1} {n = (n + 1) * 10} (10 ^ length cs) (omega (arith, low)))

zeros : (n : ℕ) (ds : List ℕ) → list_all is_zero ds ≡ true → digits_after 10 n ds ≡ n * 10 ^ length ds
zeros n [] all = omega arith
zeros n (c ∷ cs) all =
    let parts = both (is_zero c) (list_all is_zero cs) all in
    let same : n * 10 + digit_value c ≡ n * 10 = omega (arith, zero_digit c parts.0) in
    zeros (n * 10 + digit_value c) cs parts.1 ∙ (ap (λ m. m * 10 ^ length cs) same ∙ sym (more_power n (length cs)))

not_zeros : (n : ℕ) (ds : List ℕ) → list_all is_digit ds ≡ true → list_all is_zero ds ≡ false → n * 10 ^ length ds < digits_after 10 n ds
not_zeros n [] digits some = cc
not_zeros n (c ∷ cs) digits some =
    by_test (is_zero c) refl (λ others. not_zeros (n * 10 + digit_value c) cs (both (is_digit c) (list_all is_digit cs) digits).1 others) some
  where
    by_test : (z : Bool) → is_zero c ≡ z →
        (list_all is_zero cs ≡ false → (n * 10 + digit_value c) * 10 ^ length cs < digits_after 10 (n * 10 + digit_value c) cs) →
        (z && list_all is_zero cs) ≡ false → n * 10 ^ length (c ∷ cs) < digits_after 10 n (c ∷ cs)
    by_test true e more others =
        let m = n * 10 + digit_value c in
        omega (arith, more others, more_power n (length cs), mul-le-mul_right {m = n * 10} {n = m} (10 ^ length cs) (omega arith))
    by_test false e more others =
        let parts = both (is_digit c) (list_all is_digit cs) digits in
        let m = n * 10 + digit_value c in
        omega (arith, least m cs, more_power n (length cs), some_power (length cs), times_more (n * 10) (10 ^ length cs), mul-le-mul_right {m = n * 10 + 1} {n = m} (10 ^ length cs) (omega (arith, some_digit c parts.0 e)))

-- the digits in front of the point and those behind it write the whole

in_two_parts : (place : ℕ) (ds : List ℕ) → decimal_value ds ≡ digits_after 10 (decimal_value (take place ds)) (drop place ds)
unfolding decimal_value
in_two_parts place ds = ap (λ xs. digits_after 10 0 xs) (sym (take-append-drop place ds)) ∙ digits_after-append 10 0 (take place ds) (drop place ds)

some_of : (b : Bool) (m n : ℕ) → (if b then Some m else None) ≡ Some n → (b ≡ true) × (m ≡ n)
some_of true m n e = (refl, cc)
some_of false m n e = cc

none_of : (b : Bool) (m : ℕ) → (if b then Some m else None) ≡ None → b ≡ false
none_of true m e = cc
none_of false m e = refl

digits_behind : (place : ℕ) (ds : List ℕ) → list_all is_digit ds ≡ true → list_all is_digit (drop place ds) ≡ true
digits_behind zero ds all = all
digits_behind (suc k) [] all = refl
digits_behind (suc k) (d ∷ ds) all = digits_behind k ds (both (is_digit d) (list_all is_digit ds) all).1

point_gives : (place : ℕ) (ds : List ℕ) (n : ℕ) → with_point place ds ≡ Some n → decimal_value ds * 10 ^ place ≡ n * 10 ^ length ds
point_gives place ds n e =
    let front = decimal_value (take place ds) in
    let parts = some_of (list_all is_zero (drop place ds)) (front * 10 ^ (place - length ds)) n e in
    let size : length (drop place ds) ≡ length ds - place = length-drop place ds in
    let value : decimal_value ds ≡ front * 10 ^ (length ds - place) =
    in_two_parts place ds ∙ (zeros front (drop place ds) parts.0 ∙ ap (λ k. front * 10 ^ k) size) in
    let exponents : (length ds - place) + place ≡ (place - length ds) + length ds = omega arith in
    ap (λ x. x * 10 ^ place) value
    ∙ (powers front (length ds - place) place
    ∙ (ap (λ k. front * 10 ^ k) exponents
    ∙ (sym (powers front (place - length ds) (length ds)) ∙ ap (λ x. x * 10 ^ length ds) parts.1)))

point_none : (place : ℕ) (ds : List ℕ) (n : ℕ) → list_all is_digit ds ≡ true → with_point place ds ≡ None → decimal_value ds * 10 ^ place ≡ n * 10 ^ length ds → ⊥
point_none place ds n digits e same = elim (cases_lt place (length ds)) [
  | inl inside ↦ (
      let rest = drop place ds in
      let front = decimal_value (take place ds) in
      let some = none_of (list_all is_zero rest) (front * 10 ^ (place - length ds)) e in
      let count : length rest ≡ length ds - place = length-drop place ds in
      let parts : (length ds - place) + place ≡ length ds = omega arith in
      let value = in_two_parts place ds in
      let low : front * 10 ^ length rest < decimal_value ds = rw value (not_zeros front rest (digits_behind place ds digits) some) in
      let high : decimal_value ds < (front + 1) * 10 ^ length rest = rw value (greatest front rest (digits_behind place ds digits)) in
      let whole : decimal_value ds ≡ n * 10 ^ length rest =
      cancel (decimal_value ds) (n * 10 ^ length rest) place
      (same ∙ (ap (λ k. n * 10 ^ k) (sym parts) ∙ (sym (powers n (length ds - place) place) ∙ ap (λ k. n * 10 ^ k * 10 ^ place) (sym count)))) in
      elim (cases_lt n (front + 1)) [
        | inl few ↦ omega (arith, low, whole, mul-le-mul_right {m = n} {n = front} (10 ^ length rest) (omega arith))
        | inr many ↦ omega (arith, high, whole, mul-le-mul_right {m = front + 1} {n = n} (10 ^ length rest) many)
      ]
      )
  | inr outside ↦ (
      let none : drop place ds ≡ [] = drop_all place ds outside in
      let zero_all : list_all is_zero (drop place ds) ≡ true = rw none refl in
      let some = none_of (list_all is_zero (drop place ds)) (decimal_value (take place ds) * 10 ^ (place - length ds)) e in
      let clash : ◌≡◌ {A = Bool} true false = sym zero_all ∙ some in
      cc
      )
]

-- an exponent moves the point

value_low : (ds : List ℕ) → list_all is_digit ds ≡ true → decimal_value ds < 10 ^ length ds
unfolding decimal_value
value_low ds digits = omega (arith, greatest 0 ds digits)

to_exponent : (value n whole fraction up down : ℕ) → value < 10 ^ (whole + fraction) →
    value * 10 ^ ((whole + up) - down) ≡ n * 10 ^ (whole + fraction) → value * 10 ^ up ≡ n * 10 ^ (fraction + down)
to_exponent value n whole fraction up down low e = elim (cases_lt (whole + up) down) [
  | inl left ↦ (
      let none : (whole + up) - down ≡ 0 = omega arith in
      let same : value * 1 ≡ n * 10 ^ (whole + fraction) = ap (λ k. value * 10 ^ k) (sym none) ∙ e in
      no_number n same
      )
  | inr right ↦ (
      let place = (whole + up) - down in
      let one : place + down ≡ up + whole = omega arith in
      let other : (whole + fraction) + down ≡ (fraction + down) + whole = omega arith in
      cancel (value * 10 ^ up) (n * 10 ^ (fraction + down)) whole
      (powers value up whole
      ∙ (ap (λ k. value * 10 ^ k) (sym one)
      ∙ (sym (powers value place down)
      ∙ (ap (λ x. x * 10 ^ down) e ∙ (powers n (whole + fraction) down ∙ (ap (λ k. n * 10 ^ k) other ∙ sym (powers n (fraction + down) whole)))))))
      )
]
  where
    no_number : (n : ℕ) → value * 1 ≡ n * 10 ^ (whole + fraction) → value * 10 ^ up ≡ n * 10 ^ (fraction + down)
    no_number zero same =
        let nothing : value ≡ 0 = omega arith in
        rw nothing (omega arith)
    no_number (suc n) same = absurd (omega (arith, mul-le-mul_right {m = 1} {n = suc n} (10 ^ (whole + fraction)) (omega arith)))

from_exponent : (value n whole fraction up down : ℕ) → value < 10 ^ (whole + fraction) →
    value * 10 ^ up ≡ n * 10 ^ (fraction + down) → value * 10 ^ ((whole + up) - down) ≡ n * 10 ^ (whole + fraction)
from_exponent value n whole fraction up down low e = elim (cases_lt (whole + up) down) [
  | inl left ↦ (
      let none : (whole + up) - down ≡ 0 = omega arith in
      rw none (no_number n left e)
      )
  | inr right ↦ (
      let place = (whole + up) - down in
      let one : up + whole ≡ place + down = omega arith in
      let other : (fraction + down) + whole ≡ (whole + fraction) + down = omega arith in
      cancel (value * 10 ^ place) (n * 10 ^ (whole + fraction)) down
      (powers value place down
      ∙ (ap (λ k. value * 10 ^ k) (sym one)
      ∙ (sym (powers value up whole)
      ∙ (ap (λ x. x * 10 ^ whole) e ∙ (powers n (fraction + down) whole ∙ (ap (λ k. n * 10 ^ k) other ∙ sym (powers n (whole + fraction) down)))))))
      )
]
  where
    no_number : (n : ℕ) → whole + up < down → value * 10 ^ up ≡ n * 10 ^ (fraction + down) → value * 1 ≡ n * 10 ^ (whole + fraction)
    no_number zero left same =
        let nothing : value ≡ 0 = cancel value 0 up (same ∙ omega arith) in
        omega (arith, nothing)
    no_number (suc n) left same =
        let much : 10 ^ ((whole + fraction) + up) ≤ 10 ^ (fraction + down) = pow-le-pow_right {n = 10} (omega arith) (omega arith) in
        let some : 1 * 10 ^ (fraction + down) ≤ suc n * 10 ^ (fraction + down) = mul-le-mul_right {m = 1} {n = suc n} (10 ^ (fraction + down)) (omega arith) in
        let little : (value + 1) * 10 ^ up ≤ 10 ^ (whole + fraction) * 10 ^ up = mul-le-mul_right {m = value + 1} {n = 10 ^ (whole + fraction)} (10 ^ up) (omega (arith, low)) in
        absurd (omega (arith, much, some, little, same, times_more value (10 ^ up), some_power up, pow-add 10 (whole + fraction) up))

-- the digits of a float are digits

leading_are_digits : (text : List ℕ) → list_all is_digit (leading_digits text) ≡ true
leading_are_digits [] = refl
leading_are_digits (b ∷ bs) = by_test (is_digit b) refl (leading_are_digits bs) where
  by_test : (d : Bool) → is_digit b ≡ d → list_all is_digit (leading_digits bs) ≡ true →
      list_all is_digit (take (if d then 1 + prefix_len is_digit bs else 0) (b ∷ bs)) ≡ true
  by_test true e more =
      let size : 1 + prefix_len is_digit bs ≡ suc (prefix_len is_digit bs) = omega arith in
      rw (size, e) more
  by_test false e more = refl

all_digits : (text : List ℕ) → list_all is_digit (whole_digits text ++ fraction_digits text) ≡ true
unfolding whole_digits fraction_digits
all_digits text =
    let behind = past_point (past_digits text) in
    list_all-append is_digit (leading_digits text) (leading_digits behind) ∙ rw (leading_are_digits text, leading_are_digits behind) refl

-- what is read is what the float denotes
pub float_denotes : (text : List ℕ) (n : ℕ) → float_value text ≡ Some n → Denotes text n
unfolding float_value
float_denotes text n e =
    let whole = whole_digits text in
    let fraction = fraction_digits text in
    let exponent = exponent_text text in
    let digits = whole ++ fraction in
    let size = length-append whole fraction in
    let low : decimal_value digits < 10 ^ (length whole + length fraction) = rw (← size) (value_low digits (all_digits text)) in
    let given = point_gives (moved (length whole) exponent) digits n e in
    to_exponent (decimal_value digits) n (length whole) (length fraction) (raised exponent) (lowered exponent) low (rw (← size) given)

-- and where nothing is read it denotes no whole number
pub float_denotes_none : (text : List ℕ) (n : ℕ) → float_value text ≡ None → Denotes text n → ⊥
unfolding float_value
float_denotes_none text n e d =
    let whole = whole_digits text in
    let fraction = fraction_digits text in
    let exponent = exponent_text text in
    let digits = whole ++ fraction in
    let size = length-append whole fraction in
    let low : decimal_value digits < 10 ^ (length whole + length fraction) = rw (← size) (value_low digits (all_digits text)) in
    let moved_point = from_exponent (decimal_value digits) n (length whole) (length fraction) (raised exponent) (lowered exponent) low d in
    point_none (moved (length whole) exponent) digits n (all_digits text) e (rw size moved_point)

-- it denotes one whole number at most
pub denotes_once : (text : List ℕ) (m n : ℕ) → Denotes text m → Denotes text n → m ≡ n
denotes_once text m n d e = cancel m n (length (fraction_digits text) + lowered (exponent_text text)) (sym d ∙ e)
