-- The decimals that are printed are tokens, and are read as the numbers that they stand for.
use Rattle.std.specs.List.{list_all}
use Rattle.std.specs.Fmt.{decimal}
use Rattle.std.proofs.lemmas.Fmt.{decimal_by_steps}
use Rattle.std.proofs.lemmas.Bool.Decides.{nat_tests}
use Rattle.std.proofs.lemmas.List.Folds.{list_all-append}
use Rattle.std.proofs.Common.{◌≡◌, ◌≢◌, ℕ, zero, suc, ◌+◌, ◌*◌, ◌/◌, ◌%◌, ◌^◌, ◌<◌, ◌≤◌, Bool, true, false, ◌&&◌, eqb, List, [], ◌∷◌, ◌++◌, length, get_or, refl, ◌∙◌, arith}
use Rattle.cps_lex.specs.Bytes.{is_digit}
use Rattle.cps_lex.specs.Forms.{is_decimal, is_nothing}
use Rattle.cps_schema.specs.Digits.{digit_value, digits_after, decimal_value}

-- the digits of a number: there is one, none but that of 0 is a leading 0, and they are worth the number
pub record WritesNumber (n : ℕ) (text : List ℕ) : Type 0 where
  pub some : 0 < length text
  pub digits : list_all is_digit text ≡ true
  pub first : 0 < n → get_or text 0 0 ≢ 48
  pub short : n < 10 → length text ≡ 1
  pub value : digits_after 10 0 text ≡ n

digit_of : (n : ℕ) → n < 10 → is_digit (48 + n) ≡ true
unfolding is_digit
digit_of n h = grind (arith, nat_tests)

value_of : (n : ℕ) → n < 10 → digit_value (48 + n) ≡ n
unfolding digit_value
value_of n h = grind (arith, nat_tests)

one_digit : (n : ℕ) → n < 10 → WritesNumber n ((48 + n) ∷ [])
one_digit n h = record {
  some = omega arith;
  digits = rw (digit_of n h) refl;
  first = λ p. omega arith;
  short = λ p. refl;
  value = rw (value_of n h) (omega arith);
}

digits_after-push : (m c : ℕ) (ds : List ℕ) → digits_after 10 m (ds ++ c ∷ []) ≡ digits_after 10 m ds * 10 + digit_value c
digits_after-push m c [] = refl
digits_after-push m c (d ∷ ds) = digits_after-push (m * 10 + digit_value d) c ds

first_of-push : (c : ℕ) (ds : List ℕ) → 0 < length ds → get_or (ds ++ c ∷ []) 0 0 ≡ get_or ds 0 0
first_of-push c [] h = absurd (omega arith)
first_of-push c (d ∷ ds) h = refl

length-push : (c : ℕ) (ds : List ℕ) → 0 < length (ds ++ c ∷ [])
length-push c [] = omega arith
length-push c (d ∷ ds) = omega arith

next_digit : (n : ℕ) (ds : List ℕ) → 10 ≤ n → WritesNumber (n / 10) ds → WritesNumber n (ds ++ (48 + n % 10) ∷ [])
next_digit n ds h w =
    let low : n % 10 < 10 = omega arith in
    let high : 0 < n / 10 = omega arith in
    let last : list_all is_digit ((48 + n % 10) ∷ []) ≡ true = rw (digit_of (n % 10) low) refl in
    record {
      some = length-push (48 + n % 10) ds;
      digits = list_all-append is_digit ds ((48 + n % 10) ∷ []) ∙ rw (w.digits, last) refl;
      first = λ p. rw (first_of-push (48 + n % 10) ds w.some) (w.first high);
      short = λ p. absurd (omega arith);
      value = digits_after-push 0 (48 + n % 10) ds ∙ rw (w.value, value_of (n % 10) low) (omega arith);
    }

pub decimal-writes : (n : ℕ) → n < 2 ^ 64 → WritesNumber n (decimal n)
decimal-writes n h = decimal_by_steps WritesNumber one_digit next_digit n h

pub and_true : (a b : Bool) → (a && b) ≡ true → (a ≡ true) × (b ≡ true)
and_true true b e = (refl, e)
and_true false b e = cc

-- such a text has the form of a decimal
pub record IsDecimalText (text : List ℕ) : Type 0 where
  pub first : ℕ
  pub others : List ℕ
  pub is : text ≡ first ∷ others
  pub digit : is_digit first ≡ true
  pub digits : list_all is_digit others ≡ true
  pub form : is_decimal (first ∷ others) ≡ true

nothing_left : (ds : List ℕ) → length ds ≡ 0 → is_nothing ds ≡ true
nothing_left [] h = refl
nothing_left (d ∷ ds) h = absurd (omega arith)

form_of : (n b : ℕ) (bs : List ℕ) (leads : Bool) → eqb b 48 ≡ leads → WritesNumber n (b ∷ bs) → is_decimal (b ∷ bs) ≡ true
form_of zero b bs true e w =
    let both = and_true (is_digit b) (list_all is_digit bs) w.digits in
    let short = w.short (omega arith) in
    let none : length bs ≡ 0 = omega arith in
    rw (both.0, e) (nothing_left bs none)
form_of (suc n) b bs true e w = absurd (w.first (omega arith) (grind (arith, nat_tests)))
form_of n b bs false e w = let both = and_true (is_digit b) (list_all is_digit bs) w.digits in rw (both.0, e) both.1

text_of_number : (n : ℕ) (text : List ℕ) → WritesNumber n text → IsDecimalText text
text_of_number n [] w = absurd (omega (arith, w.some))
text_of_number n (b ∷ bs) w =
    let both = and_true (is_digit b) (list_all is_digit bs) w.digits in
    record { first = b; others = bs; is = refl; digit = both.0; digits = both.1; form = form_of n b bs (eqb b 48) refl w }

pub decimal_text : (n : ℕ) → n < 2 ^ 64 → IsDecimalText (decimal n)
decimal_text n h = text_of_number n (decimal n) (decimal-writes n h)

pub decimal_value-decimal : (n : ℕ) → n < 2 ^ 64 → decimal_value (decimal n) ≡ n
unfolding decimal_value
decimal_value-decimal n h = (decimal-writes n h).value
