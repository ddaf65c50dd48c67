-- Floats, read by moving their point.
use Rattle.std.specs.List.{list_all, prefix_len}
use Rattle.std.specs.Option.{option_map}
use Rattle.std.proofs.lemmas.Bool.{cases_lt}
use Rattle.std.proofs.lemmas.List.{take_all, drop_all, length-append, length-take, length-drop}
use Rattle.std.proofs.lemmas.List.Folds.{list_all-append}
use Rattle.std.proofs.Math.Nat.{mul_assoc, mul-le-mul_right, one-le-pow, pow-le-pow_right}
use Rattle.std.proofs.Common.{◌≡◌, ℕ, zero, suc, ◌+◌, ◌-◌, ◌*◌, ◌^◌, ◌≤◌, min, inl, inr, List, [], ◌∷◌, ◌++◌, length, take, drop, Bool, true, false, ◌==◌, ◌&&◌, if◌then◌else◌, Option, Some, None, refl, sym, ap, ◌∙◌, arith, pow-add}
use Rattle.cps_lex.specs.Bytes.{is_digit}
use Rattle.cps_schema.specs.Digits.{digits_after, decimal_value, capped}
use Rattle.cps_schema.specs.Floats.{leading_digits, past_digits, past_point, whole_digits, fraction_digits, is_zero, with_point}
use Rattle.cps_schema.proofs.Decimals.{product_capped, digits_after-append}

-- one zero more
pub zero_more : (number i : ℕ) → capped (capped (number * 10 ^ i) * 10) ≡ capped (number * 10 ^ (i + 1))
zero_more number i =
    let product : number * 10 ^ i * 10 ≡ number * 10 ^ (i + 1) = mul_assoc number (10 ^ i) 10 ∙ ap (λ x. number * x) (sym (pow-add 10 i 1)) in
    product_capped (capped (number * 10 ^ i)) (number * 10 ^ i) 10 (omega arith) (omega arith) ∙ ap (λ n. capped n) product

-- behind so many zeros each number but 0 is too great
many_zeros : (number k : ℕ) → 20 ≤ k → 1 ≤ number → 2 ^ 64 - 1 ≤ number * 10 ^ k
many_zeros number k h some =
    let power : 10 ^ 20 ≤ 10 ^ k = pow-le-pow_right {n = 10} (omega arith) h in
    omega (arith, power, mul-le-mul_right (10 ^ k) some)

same_zeros : (number j k : ℕ) → 20 ≤ j → 20 ≤ k → capped (number * 10 ^ j) ≡ capped (number * 10 ^ k)
same_zeros zero j k h i = omega arith
same_zeros (suc n) j k h i = omega (arith, many_zeros (suc n) j h (omega arith), many_zeros (suc n) k i (omega arith))

pub enough_zeros : (number zeros : ℕ) → capped (number * 10 ^ min zeros 20) ≡ capped (number * 10 ^ zeros)
enough_zeros number zeros = elim (cases_lt zeros 20) [
  | inl few ↦ (let same : min zeros 20 ≡ zeros = omega arith in rw same refl)
  | inr more ↦ (let same : min zeros 20 ≡ 20 = omega arith in rw same (same_zeros number 20 zeros (omega arith) more))
]

-- where the point stands far behind all digits
far_behind : (j k : ℕ) (digits : List ℕ) → length digits + 20 ≤ j → length digits + 20 ≤ k →
    option_map capped (with_point j digits) ≡ option_map capped (with_point k digits)
far_behind j k digits p q =
    rw (drop_all j digits (omega arith), drop_all k digits (omega arith), take_all j digits (omega arith), take_all k digits (omega arith))
    (ap (λ (n : ℕ). Some n) (same_zeros (decimal_value digits) (j - length digits) (k - length digits) (omega arith) (omega arith)))

pub place_capped : (place : ℕ) (digits : List ℕ) → length digits + 20 ≤ 2 ^ 64 - 1 →
    option_map capped (with_point (capped place) digits) ≡ option_map capped (with_point place digits)
place_capped place digits few = elim (cases_lt place (2 ^ 64 - 1)) [
  | inl small ↦ (let same : min place (2 ^ 64 - 1) ≡ place = omega arith in rw same refl)
  | inr great ↦ (let same : min place (2 ^ 64 - 1) ≡ 2 ^ 64 - 1 = omega arith in rw same (far_behind (2 ^ 64 - 1) place digits few (omega arith)))
]

-- a text has no fewer bytes than digits

shorter_point : (text : List ℕ) → length (past_point text) ≤ length text
shorter_point [] = omega arith
shorter_point (b ∷ bs) = by_test (b == 46) where
  by_test : (t : Bool) → length (if t then bs else b ∷ bs) ≤ length (b ∷ bs)
  by_test true = omega arith
  by_test false = omega arith

leading_within : (text : List ℕ) → length (leading_digits text) ≤ length text
leading_within text = rw (length-take (prefix_len is_digit text) text) (omega arith)

leading_apart : (text : List ℕ) → length (leading_digits text) + length (past_digits text) ≤ length text
leading_apart text = rw (length-take (prefix_len is_digit text) text, length-drop (prefix_len is_digit text) text) (omega arith)

pub digits_within : (text : List ℕ) → length (whole_digits text ++ fraction_digits text) ≤ length text
unfolding whole_digits fraction_digits
digits_within text =
    let behind = past_point (past_digits text) in
    rw (length-append (leading_digits text) (leading_digits behind))
    (omega (arith, leading_apart text, shorter_point (past_digits text), leading_within behind))

-- digits in two lists

take-append : {X : Type 0} (n : ℕ) (xs ys : List X) → take n (xs ++ ys) ≡ take n xs ++ take (n - length xs) ys
take-append n [] ys = let all : n - 0 ≡ n = omega arith in rw all (none n)
  where
    none : (k : ℕ) → take k ys ≡ take k [] ++ take k ys
    none zero = refl
    none (suc k) = refl
take-append zero (x ∷ xs) ys = let none : 0 - suc (length xs) ≡ 0 = omega arith in rw none refl
take-append (suc n) (x ∷ xs) ys =
    let less : suc n - suc (length xs) ≡ n - length xs = omega arith in
    rw less (ap (λ l. x ∷ l) (take-append n xs ys))

drop-append : {X : Type 0} (n : ℕ) (xs ys : List X) → drop n (xs ++ ys) ≡ drop n xs ++ drop (n - length xs) ys
drop-append n [] ys = let all : n - 0 ≡ n = omega arith in rw all (none n)
  where
    none : (k : ℕ) → drop k ys ≡ drop k [] ++ drop k ys
    none zero = refl
    none (suc k) = refl
drop-append zero (x ∷ xs) ys = let none : 0 - suc (length xs) ≡ 0 = omega arith in rw none refl
drop-append (suc n) (x ∷ xs) ys =
    let less : suc n - suc (length xs) ≡ n - length xs = omega arith in
    rw less (drop-append n xs ys)

-- the same number with the digits before the first point and those behind it apart
abbrev pub in_two : ℕ → List ℕ → List ℕ → Option ℕ
in_two place xs ys =
    if list_all is_zero (drop place xs) && list_all is_zero (drop (place - length xs) ys)
    then Some (digits_after 10 (decimal_value (take place xs)) (take (place - length xs) ys) * 10 ^ ((place - length xs) - length ys))
    else None

pub point_in_two : (place : ℕ) (xs ys : List ℕ) → with_point place (xs ++ ys) ≡ in_two place xs ys
unfolding decimal_value
point_in_two place xs ys =
    let size : place - length (xs ++ ys) ≡ (place - length xs) - length ys = rw (length-append xs ys) (omega arith) in
    rw (drop-append place xs ys, list_all-append is_zero (drop place xs) (drop (place - length xs) ys), take-append place xs ys, digits_after-append 10 0 (take place xs) (take (place - length xs) ys), size) refl

-- where the digits behind the point are all 0

pub some_in_two : (place : ℕ) (xs ys : List ℕ) → (list_all is_zero (drop place xs) && list_all is_zero (drop (place - length xs) ys)) ≡ true →
    option_map capped (with_point place (xs ++ ys))
    ≡ Some (capped (digits_after 10 (decimal_value (take place xs)) (take (place - length xs) ys) * 10 ^ ((place - length xs) - length ys)))
some_in_two place xs ys all =
    let given : with_point place (xs ++ ys) ≡ Some (digits_after 10 (decimal_value (take place xs)) (take (place - length xs) ys) * 10 ^ ((place - length xs) - length ys)) =
    point_in_two place xs ys ∙ rw all refl in
    rw given refl

pub none_in_two : (place : ℕ) (xs ys : List ℕ) → (list_all is_zero (drop place xs) && list_all is_zero (drop (place - length xs) ys)) ≡ false →
    option_map capped (with_point place (xs ++ ys)) ≡ None
none_in_two place xs ys some =
    let given : with_point place (xs ++ ys) ≡ None = point_in_two place xs ys ∙ rw some refl in
    rw given refl

-- cutting off on the way changes nothing at the end
pub product_cut : (number zeros : ℕ) → capped (capped number * 10 ^ zeros) ≡ capped (number * 10 ^ zeros)
product_cut number zeros = product_capped (capped number) number (10 ^ zeros) (one-le-pow zeros 10 (omega arith)) (omega arith)
