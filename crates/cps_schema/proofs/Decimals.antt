-- Digits, read up to a greatest number.
use Rattle.std.specs.Fmt.{decimal}
use Rattle.std.specs.Int.{IsInRange}
use Rattle.std.specs.Str.{all_ascii_digits, bytes_eq}
use Rattle.std.proofs.lemmas.Bool.{cases_lt}
use Rattle.std.proofs.lemmas.Bool.Decides.{nat_tests}
use Rattle.std.proofs.lemmas.Fmt.{digits_decimal, digits_value-decimal}
use Rattle.std.proofs.lemmas.Str.Parse.{IsNumeralModel, numerals_by_fold}
use Rattle.std.proofs.lemmas.Slice.Eq.{bytes_eq-Decides}
use Rattle.std.proofs.Math.Nat.{mul-le-mul_left}
use Rattle.std.proofs.Common.{◌≡◌, ℕ, zero, suc, ◌+◌, ◌-◌, ◌*◌, ◌^◌, ◌<◌, ◌≤◌, inl, inr, List, [], ◌∷◌, ◌++◌, length, get_or, drop, Bool, true, false, nat_le, Some, refl, ◌∙◌, arith, drop-cons, add-one, rules, sym, codes, pos, neg_ℤ}
use Rattle.cps_lex.specs.declared.types.TokenKind.TheVariants.{Decimal}
use Rattle.cps_schema.specs.declared.number.Number.{Number}
use Rattle.cps_schema.specs.declared.number.Number.TheVariants.{Int64, Int32, Exact}
use Rattle.cps_schema.specs.Digits.{digit_value, digits_after, decimal_value, capped}
use Rattle.cps_schema.specs.Written.{Written, token_text, token_kind, signed_value, is_negative, size_at, number_at}
use Rattle.cps_schema.specs.Numbers.{fits, limit}

le_times : (n b : ℕ) → 1 ≤ b → n ≤ n * b
le_times n b h = omega (arith, mul-le-mul_left n h)

-- cutting off before a step changes nothing that is left after it
step_capped : (base n m d : ℕ) → 1 ≤ base → capped n ≡ capped m → capped (n * base + d) ≡ capped (m * base + d)
step_capped base n m d h e = elim (cases_lt n (2 ^ 64 - 1)) [
  | inl small ↦ (let same : n ≡ m = omega arith in rw same refl)
  | inr great ↦ omega (arith, le_times n base h, le_times m base h)
]

pub product_capped : (n m b : ℕ) → 1 ≤ b → capped n ≡ capped m → capped (n * b) ≡ capped (m * b)
product_capped n m b h e = elim (cases_lt n (2 ^ 64 - 1)) [
  | inl small ↦ (let same : n ≡ m = omega arith in rw same refl)
  | inr great ↦ omega (arith, le_times n b h, le_times m b h)
]

pub digits_capped : (base n m : ℕ) (cs : List ℕ) → 1 ≤ base → capped n ≡ capped m → capped (digits_after base n cs) ≡ capped (digits_after base m cs)
digits_capped base n m [] h e = e
digits_capped base n m (c ∷ cs) h e =
    digits_capped base (n * base + digit_value c) (m * base + digit_value c) cs h (step_capped base n m (digit_value c) h e)

pub next_digit : (base : ℕ) (text : List ℕ) (i v : ℕ) → i < length text →
    digits_after base v (drop i text) ≡ digits_after base (v * base + digit_value (get_or text i 0)) (drop (i + 1) text)
next_digit base text i v within = rw (drop-cons text i 0 within, add-one) refl

pub digits_after-append : (base n : ℕ) (xs ys : List ℕ) → digits_after base n (xs ++ ys) ≡ digits_after base (digits_after base n xs) ys
digits_after-append base n [] ys = refl
digits_after-append base n (x ∷ xs) ys = digits_after-append base (n * base + digit_value x) xs ys

-- a number is within its type where its size is within the limit
pub fits_signed : (type : Number) (negative : Bool) (size : ℕ) → fits type (signed_value negative size) ≡ nat_le size (limit type negative)
unfolding fits
fits_signed Int64 true zero = refl
fits_signed Int64 true (suc n) = grind (arith)
fits_signed Int64 false n = grind (arith)
fits_signed Int32 true zero = refl
fits_signed Int32 true (suc n) = grind (arith)
fits_signed Int32 false n = grind (arith)
fits_signed Exact true zero = refl
fits_signed Exact true (suc n) = grind (arith)
fits_signed Exact false n = grind (arith)

-- a digit of a decimal
plain_digit : (c : ℕ) → IsInRange 48 57 c → digit_value c ≡ c - 48
unfolding digit_value
plain_digit c h = grind (arith, nat_tests)

decimals : IsNumeralModel (λ ds. all_ascii_digits ds ≡ true) (digits_after 10 0)
decimals = numerals_by_fold _ (search rules) (digits_after 10) (record {
  empty = λ n. refl;
  more = λ n c cs h. rw (plain_digit c h) refl;
})

-- a printed number is read as itself
pub decimal_value-decimal : (n : ℕ) → n < 2 ^ 64 → decimal_value (decimal n) ≡ n
unfolding decimal_value
decimal_value-decimal n small = digits_value-decimal decimals n small

-- a printed number has no sign
is_unsigned : (w : Written) (first n : ℕ) → n < 2 ^ 64 → token_text w first ≡ decimal n → is_negative w first ≡ false
unfolding is_negative
is_unsigned w first n small text = by_test (bytes_eq (token_text w first) (codes "-")) refl where
  by_test : (b : Bool) → bytes_eq (token_text w first) (codes "-") ≡ b → bytes_eq (token_text w first) (codes "-") ≡ false
  by_test false e = e
  by_test true e =
      let sign : decimal n ≡ codes "-" = sym text ∙ (bytes_eq-Decides (token_text w first) (codes "-")).0 e in
      let digits : all_ascii_digits (codes "-") ≡ true = rw sign at (digits_decimal decimals n small) in
      cc

pub number_at-decimal : (w : Written) (first n : ℕ) → n < 2 ^ 64 → token_text w first ≡ decimal n → token_kind w first ≡ Some Decimal →
    number_at w first ≡ pos n
unfolding number_at size_at
number_at-decimal w first n small text kind = rw (is_unsigned w first n small text, kind, text, decimal_value-decimal n small) refl

pub number_at-minus : (w : Written) (first n : ℕ) → n < 2 ^ 64 → token_text w first ≡ codes "-" → token_text w (first + 1) ≡ decimal n →
    token_kind w (first + 1) ≡ Some Decimal → number_at w first ≡ neg_ℤ (pos n)
unfolding number_at size_at is_negative
number_at-minus w first n small sign text kind = rw (sign, kind, text, decimal_value-decimal n small) refl
