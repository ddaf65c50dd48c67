-- A number's text is the whole run of bytes that may belong to a number.
use Rattle.std.proofs.Common.{◌≡◌, ℕ, zero, suc, ◌+◌, ◌≤◌, Bool, true, false, cond, ◌&&◌, ◌||◌, not, eqb, List, [], ◌∷◌, length, take, drop, Option, Some, None, refl, sym, ◌∙◌, ap, subst, arith}
use Rattle.std.proofs.lemmas.Bool.Decides.{nat_tests}
use Rattle.std.specs.Option.{option_map_or}
use Rattle.std.specs.List.{list_all}
use Rattle.cps_lex.specs.declared.types.TokenKind.{TokenKind}
use Rattle.cps_lex.specs.declared.types.TokenKind.TheVariants.{Decimal, Octal, Hexadecimal, Float}
use Rattle.cps_lex.specs.declared.float.Part.{Part}
use Rattle.cps_lex.specs.declared.float.Part.TheVariants.{Zero, Whole, Point, Fraction, Mark, Signed, Exponent, Suffix}
use Rattle.cps_lex.specs.Bytes.{is_word, is_digit, is_octal_digit, is_hex_digit, is_x, is_exponent_mark, is_plus_or_minus, is_float_suffix, is_number_start, is_number_part, belongs_to_number}
use Rattle.cps_lex.specs.Floats.{next_part, may_be_last, float_from, start_of}
use Rattle.cps_lex.specs.Forms.{number_kind, may_end, goes_on, is_decimal, is_octal, is_hexadecimal, is_float, is_nothing, some_pass}
use Rattle.cps_lex.specs.Scan.{number_run, run_of, has_signs}

pub and_true : (a b : Bool) → (a && b) ≡ true → (a ≡ true) × (b ≡ true)
and_true true b e = (refl, e)
and_true false b e = cc

or_false : (a b : Bool) → (a || b) ≡ false → (a ≡ false) × (b ≡ false)
or_false true b e = cc
or_false false b e = (refl, e)

-- the run has no more bytes than there are, and where it ends no number goes on

run_within : (signs marked : Bool) (bs : List ℕ) → number_run signs marked bs ≤ length bs
run_within signs marked [] = omega arith
run_within signs marked (b ∷ bs) = by (belongs_to_number marked b) _ _ (run_within signs (signs && is_exponent_mark b) bs)
  where
    by : (v : Bool) (m n : ℕ) → m ≤ n → cond v (1 + m) 0 ≤ suc n
    by true m n le = omega arith
    by false m n le = omega arith

run_ends : (signs marked : Bool) (bs : List ℕ) → goes_on (drop (number_run signs marked bs) bs) ≡ false
run_ends signs marked [] = refl
run_ends signs marked (b ∷ bs) = by marked b bs _ (belongs_to_number marked b) refl (run_ends signs (signs && is_exponent_mark b) bs)
  where
    by : (marked : Bool) (b : ℕ) (bs : List ℕ) (n : ℕ) (v : Bool) → belongs_to_number marked b ≡ v → goes_on (drop n bs) ≡ false → goes_on (drop (cond v (1 + n) 0) (b ∷ bs)) ≡ false
    by marked b bs n true e rest =
        let one : 1 + n ≡ suc n = omega arith in
        rw one rest
    by marked b bs n false e rest = (or_false (is_number_part b) (marked && is_plus_or_minus b) e).0

pub run_of-within : (bs : List ℕ) → run_of bs ≤ length bs
run_of-within bs = run_within (has_signs bs) false bs

pub run_of-ends : (bs : List ℕ) → goes_on (drop (run_of bs) bs) ≡ false
run_of-ends bs = run_ends (has_signs bs) false bs

-- what digits are
zero_digit : (b : ℕ) → eqb b 48 ≡ true → is_digit b ≡ true
unfolding is_digit
zero_digit b e = grind (arith, nat_tests)

digit_word : (b : ℕ) → is_digit b ≡ true → is_word b ≡ true
unfolding is_digit is_word
digit_word b e = grind (arith, nat_tests)

octal_word : (b : ℕ) → is_octal_digit b ≡ true → is_word b ≡ true
unfolding is_octal_digit is_word
octal_word b e = grind (arith, nat_tests)

hex_word : (b : ℕ) → is_hex_digit b ≡ true → is_word b ≡ true
unfolding is_hex_digit is_word
hex_word b e = grind (arith, nat_tests)

x_word : (b : ℕ) → is_x b ≡ true → is_word b ≡ true
unfolding is_x is_word
x_word b e = grind (arith, nat_tests)

digit_mark : (b : ℕ) → is_digit b ≡ true → is_exponent_mark b ≡ false
unfolding is_digit is_exponent_mark
digit_mark b e = grind (arith, nat_tests)

octal_mark : (b : ℕ) → is_octal_digit b ≡ true → is_exponent_mark b ≡ false
unfolding is_octal_digit is_exponent_mark
octal_mark b e = grind (arith, nat_tests)

point_mark : (b : ℕ) → eqb b 46 ≡ true → is_exponent_mark b ≡ false
unfolding is_exponent_mark
point_mark b e = grind (arith, nat_tests)

suffix_word : (b : ℕ) → is_float_suffix b ≡ true → is_word b ≡ true
unfolding is_float_suffix is_word
suffix_word b e = grind (arith, nat_tests)

suffix_mark : (b : ℕ) → is_float_suffix b ≡ true → is_exponent_mark b ≡ false
unfolding is_float_suffix is_exponent_mark
suffix_mark b e = grind (arith, nat_tests)

mark_word : (b : ℕ) → is_exponent_mark b ≡ true → is_word b ≡ true
unfolding is_exponent_mark is_word
mark_word b e = grind (arith, nat_tests)

sign_mark : (b : ℕ) → is_plus_or_minus b ≡ true → is_exponent_mark b ≡ false
unfolding is_plus_or_minus is_exponent_mark
sign_mark b e = grind (arith, nat_tests)

x_digit : (b : ℕ) → is_x b ≡ true → is_digit b ≡ false
unfolding is_x is_digit
x_digit b e = grind (arith, nat_tests)

x_mark : (b : ℕ) → is_x b ≡ true → is_exponent_mark b ≡ false
unfolding is_x is_exponent_mark
x_mark b e = grind (arith, nat_tests)

x_suffix : (b : ℕ) → is_x b ≡ true → is_float_suffix b ≡ false
unfolding is_x is_float_suffix
x_suffix b e = grind (arith, nat_tests)

x_point : (b : ℕ) → is_x b ≡ true → eqb b 46 ≡ false
unfolding is_x
x_point b e = grind (arith, nat_tests)

all_words : (p : ℕ → Bool) → ((b : ℕ) → p b ≡ true → is_word b ≡ true) → (bs : List ℕ) → list_all p bs ≡ true → list_all is_word bs ≡ true
all_words p word [] all = refl
all_words p word (b ∷ bs) all =
    let both = and_true (p b) (list_all p bs) all in
    rw (word b both.0) (all_words p word bs both.1)

and_false : (a b : Bool) → b ≡ false → (a && b) ≡ false
and_false true b e = e
and_false false b e = refl

-- bytes that nothing continues, all letters, digits, `_`, and no `e` where a sign may follow one
plain_run : (p : ℕ → Bool) (signs : Bool) → ((b : ℕ) → p b ≡ true → is_word b ≡ true) → ((b : ℕ) → p b ≡ true → (signs && is_exponent_mark b) ≡ false) → (bs : List ℕ) (n : ℕ) → n ≤ length bs → list_all p (take n bs) ≡ true → goes_on (drop n bs) ≡ false → n ≡ number_run signs false bs
plain_run p signs word mark [] zero within all stops = refl
plain_run p signs word mark [] (suc n) within all stops = absurd (omega (arith, within))
plain_run p signs word mark (x ∷ xs) zero within all stops = rw stops refl
plain_run p signs word mark (x ∷ xs) (suc n) within all stops =
    let both = and_true (p x) (list_all p (take n xs)) all in
    let rest = plain_run p signs word mark xs n (omega (arith, within)) both.1 stops in
    rw (word x both.0, mark x both.0) (omega arith)

-- a sign may stand behind this part
abbrev is_marked : Part → Bool
is_marked Mark = true
is_marked _ = false

last_unmarked : (part : Part) → may_be_last part ≡ true → is_marked part ≡ false
last_unmarked Fraction e = refl
last_unmarked Exponent e = refl
last_unmarked Suffix e = refl
last_unmarked Zero e = refl
last_unmarked Whole e = refl
last_unmarked Point e = refl
last_unmarked Mark e = cc
last_unmarked Signed e = refl

-- a byte of a float belongs to the run
record Belongs (part : Part) (x : ℕ) (next : Part) : Type 0 where
  run : belongs_to_number (is_marked part) x ≡ true
  mark : is_exponent_mark x ≡ is_marked next

digit_belongs : (part next : Part) (x : ℕ) → is_marked next ≡ false → is_digit x ≡ true → Belongs part x next
digit_belongs part next x e digit = record { run = rw (digit_word x digit) refl; mark = digit_mark x digit ∙ sym e }

suffix_belongs : (part next : Part) (x : ℕ) → is_marked next ≡ false → is_float_suffix x ≡ true → Belongs part x next
suffix_belongs part next x e suffix = record { run = rw (suffix_word x suffix) refl; mark = suffix_mark x suffix ∙ sym e }

mark_belongs : (part : Part) (x : ℕ) → is_exponent_mark x ≡ true → Belongs part x Mark
mark_belongs part x mark = record { run = rw (mark_word x mark) refl; mark = mark }

or_true_right : (a b : Bool) → b ≡ true → (a || b) ≡ true
or_true_right true b e = refl
or_true_right false b e = e

point_belongs : (part : Part) (x : ℕ) → eqb x 46 ≡ true → Belongs part x Fraction
point_belongs part x point = record { run = rw (or_true_right (is_word x) (eqb x 46) point) refl; mark = point_mark x point }

tail_belongs : (part next : Part) (x : ℕ) (m f : Bool) → is_exponent_mark x ≡ m → is_float_suffix x ≡ f → cond m (Some Mark) (cond f (Some Suffix) None) ≡ Some next → Belongs part x next
tail_belongs part next x true f em ef e = let is : Mark ≡ next = cc in subst (Belongs part x) is (mark_belongs part x em)
tail_belongs part next x false true em ef e = let is : Suffix ≡ next = cc in subst (Belongs part x) is (suffix_belongs part Suffix x refl ef)
tail_belongs part next x false false em ef e = cc

whole_belongs : (part next : Part) (x : ℕ) (v : Bool) → eqb x 46 ≡ v → cond v (Some Fraction) (cond (is_exponent_mark x) (Some Mark) (cond (is_float_suffix x) (Some Suffix) None)) ≡ Some next → Belongs part x next
whole_belongs part next x true ev e = let is : Fraction ≡ next = cc in subst (Belongs part x) is (point_belongs part x ev)
whole_belongs part next x false ev e = tail_belongs part next x (is_exponent_mark x) (is_float_suffix x) refl refl e

digit_or : (part same next : Part) (x : ℕ) (o : Option Part) (v : Bool) → is_marked same ≡ false → is_digit x ≡ v → (o ≡ Some next → Belongs part x next) → cond v (Some same) o ≡ Some next → Belongs part x next
digit_or part same next x o true unmarked ev rest e = let is : same ≡ next = cc in subst (Belongs part x) is (digit_belongs part same x unmarked ev)
digit_or part same next x o false unmarked ev rest e = rest e

signed_belongs : (next : Part) (x : ℕ) (v : Bool) → is_plus_or_minus x ≡ v → cond v (Some Signed) (cond (is_digit x) (Some Exponent) None) ≡ Some next → Belongs Mark x next
signed_belongs next x true ev e =
    let is : Signed ≡ next = cc in
    subst (Belongs Mark x) is (record { run = rw ev (or_true_right (is_word x || eqb x 46) true refl); mark = sign_mark x ev })
signed_belongs next x false ev e = digit_or Mark Exponent next x None (is_digit x) refl refl (λ h. cc) e

belongs : (part next : Part) (x : ℕ) → next_part part x ≡ Some next → Belongs part x next
belongs Zero next x e = whole_belongs Zero next x (eqb x 46) refl e
belongs Whole next x e = digit_or Whole Whole next x _ (is_digit x) refl refl (λ h. whole_belongs Whole next x (eqb x 46) refl h) e
belongs Point next x e = digit_or Point Fraction next x None (is_digit x) refl refl (λ h. cc) e
belongs Fraction next x e = digit_or Fraction Fraction next x _ (is_digit x) refl refl (λ h. tail_belongs Fraction next x (is_exponent_mark x) (is_float_suffix x) refl refl h) e
belongs Mark next x e = signed_belongs next x (is_plus_or_minus x) refl e
belongs Signed next x e = digit_or Signed Exponent next x None (is_digit x) refl refl (λ h. cc) e
belongs Exponent next x e = digit_or Exponent Exponent next x _ (is_digit x) refl refl (λ h. last x next (is_float_suffix x) refl h) e
  where
    last : (x : ℕ) (next : Part) (v : Bool) → is_float_suffix x ≡ v → cond v (Some Suffix) None ≡ Some next → Belongs Exponent x next
    last x next true ev e = let is : Suffix ≡ next = cc in subst (Belongs Exponent x) is (suffix_belongs Exponent Suffix x refl ev)
    last x next false ev e = cc
belongs Suffix next x e = cc

next_of : (o : Option Part) (go : Part → Bool) → option_map_or go o false ≡ true → (next : Part) × (o ≡ Some next) × (go next ≡ true)
next_of None go e = cc
next_of (Some next) go e = (next, refl, e)

float_run : (bs : List ℕ) (part : Part) (n : ℕ) → n ≤ length bs → float_from part (take n bs) ≡ true → goes_on (drop n bs) ≡ false → n ≡ number_run true (is_marked part) bs
float_run [] part zero within form stops = refl
float_run [] part (suc n) within form stops = absurd (omega (arith, within))
float_run (x ∷ xs) part zero within form stops = rw (stops, last_unmarked part form) refl
float_run (x ∷ xs) part (suc n) within form stops =
    let one = next_of (next_part part x) _ form in
    let here = belongs part one.0 x one.1 in
    let rest = float_run xs one.0 n (omega (arith, within)) one.2 stops in
    rw (here.run, here.mark) (omega arith)

no_x_next : (part : Part) (x : ℕ) → is_marked part ≡ false → is_x x ≡ true → next_part part x ≡ None
no_x_next Zero x e h = rw (x_point x h, x_mark x h, x_suffix x h) refl
no_x_next Whole x e h = rw (x_digit x h, x_point x h, x_mark x h, x_suffix x h) refl
no_x_next Point x e h = rw (x_digit x h) refl
no_x_next Fraction x e h = rw (x_digit x h, x_mark x h, x_suffix x h) refl
no_x_next Mark x e h = cc
no_x_next Signed x e h = rw (x_digit x h) refl
no_x_next Exponent x e h = rw (x_digit x h, x_suffix x h) refl
no_x_next Suffix x e h = refl

float_signs : (bs : List ℕ) (part : Part) (n : ℕ) → is_marked part ≡ false → float_from part (take n bs) ≡ true → goes_on (drop n bs) ≡ false → has_signs bs ≡ true
float_signs [] part n unmarked form stops = refl
float_signs (x ∷ xs) part n unmarked form stops = by x xs part n (is_x x) refl unmarked form stops
  where
    by : (x : ℕ) (xs : List ℕ) (part : Part) (n : ℕ) (v : Bool) → is_x x ≡ v → is_marked part ≡ false → float_from part (take n (x ∷ xs)) ≡ true → goes_on (drop n (x ∷ xs)) ≡ false → not v ≡ true
    by x xs part n false e unmarked form stops = refl
    by x xs part zero true e unmarked form stops = let word = x_word x e in let no = (or_false (is_word x) (eqb x 46) stops).0 in cc
    by x xs part (suc n) true e unmarked form stops = let one = next_of (next_part part x) _ form in let no = no_x_next part x unmarked e in cc

start_unmarked : (b : ℕ) → is_marked (start_of b) ≡ false
start_unmarked b = by (eqb b 46) (eqb b 48)
  where
    by : (p z : Bool) → is_marked (cond p Point (cond z Zero Whole)) ≡ false
    by true z = refl
    by false true = refl
    by false false = refl

-- a number's text is the whole run, where nothing continues it
pub record IsNumberText (b : ℕ) (bs : List ℕ) (n : ℕ) (k : TokenKind) : Type 0 where
  pub first : is_number_start b ≡ true
  pub run : n ≤ length bs → goes_on (drop n bs) ≡ false → n ≡ run_of bs
  pub ends : (after : List ℕ) → may_end k after ≡ not (goes_on after)

decimal_digits : (v : Bool) (bs : List ℕ) → cond v (is_nothing bs) (list_all is_digit bs) ≡ true → list_all is_digit bs ≡ true
decimal_digits true [] e = refl
decimal_digits true (b ∷ bs) e = cc
decimal_digits false bs e = e

decimal_text : (b : ℕ) (bs : List ℕ) (n : ℕ) → is_decimal (b ∷ take n bs) ≡ true → IsNumberText b bs n Decimal
decimal_text b bs n e =
    let both = and_true (is_digit b) _ e in
    record {
      first = rw both.0 refl;
      run = λ within stops. plain_run is_digit (has_signs bs) digit_word (λ c d. and_false (has_signs bs) (is_exponent_mark c) (digit_mark c d)) bs n within (decimal_digits (eqb b 48) (take n bs) both.1) stops;
      ends = λ after. refl;
    }

some_all : (p : ℕ → Bool) (bs : List ℕ) → some_pass p bs ≡ true → list_all p bs ≡ true
some_all p [] e = cc
some_all p (b ∷ bs) e = e

octal_text : (b : ℕ) (bs : List ℕ) (n : ℕ) → is_octal (b ∷ take n bs) ≡ true → IsNumberText b bs n Octal
octal_text b bs n e =
    let both = and_true (eqb b 48) _ e in
    record {
      first = rw (zero_digit b both.0) refl;
      run = λ within stops. plain_run is_octal_digit (has_signs bs) octal_word (λ c d. and_false (has_signs bs) (is_exponent_mark c) (octal_mark c d)) bs n within (some_all is_octal_digit (take n bs) both.1) stops;
      ends = λ after. refl;
    }

hexadecimal_text : (b : ℕ) (bs : List ℕ) (n : ℕ) → is_hexadecimal (b ∷ take n bs) ≡ true → IsNumberText b bs n Hexadecimal
hexadecimal_text b bs zero e = cc
hexadecimal_text b [] (suc n) e = cc
hexadecimal_text b (x ∷ bs) (suc n) e =
    let both = and_true (eqb b 48) _ e in
    let later = and_true (is_x x) _ both.1 in
    let words : list_all is_word (x ∷ take n bs) ≡ true = rw (x_word x later.0) (all_words is_hex_digit hex_word (take n bs) (some_all is_hex_digit (take n bs) later.1)) in
    let no_signs : has_signs (x ∷ bs) ≡ false = rw later.0 refl in
    record {
      first = rw (zero_digit b both.0) refl;
      run = λ within stops. plain_run is_word false (λ c d. d) (λ c d. refl) (x ∷ bs) (suc n) within words stops ∙ ap (λ signs. number_run signs false (x ∷ bs)) (sym no_signs);
      ends = λ after. refl;
    }

float_text : (b : ℕ) (bs : List ℕ) (n : ℕ) → is_float (b ∷ take n bs) ≡ true → IsNumberText b bs n Float
float_text b bs n e =
    let both = and_true (is_number_start b) _ e in
    record {
      first = both.0;
      run = λ within stops.
          float_run bs (start_of b) n within both.1 stops
          ∙ ap (λ marked. number_run true marked bs) (start_unmarked b)
          ∙ ap (λ signs. number_run signs false bs) (sym (float_signs bs (start_of b) n (start_unmarked b) both.1 stops));
      ends = λ after. refl;
    }

number_by : (b : ℕ) (bs : List ℕ) (n : ℕ) (k : TokenKind) (d o h f : Bool) → is_decimal (b ∷ take n bs) ≡ d → is_octal (b ∷ take n bs) ≡ o → is_hexadecimal (b ∷ take n bs) ≡ h → is_float (b ∷ take n bs) ≡ f → cond d (Some Decimal) (cond o (Some Octal) (cond h (Some Hexadecimal) (cond f (Some Float) None))) ≡ Some k → IsNumberText b bs n k
number_by b bs n k true o h f ed eo eh ef e = let is : Decimal ≡ k = cc in subst (IsNumberText b bs n) is (decimal_text b bs n ed)
number_by b bs n k false true h f ed eo eh ef e = let is : Octal ≡ k = cc in subst (IsNumberText b bs n) is (octal_text b bs n eo)
number_by b bs n k false false true f ed eo eh ef e = let is : Hexadecimal ≡ k = cc in subst (IsNumberText b bs n) is (hexadecimal_text b bs n eh)
number_by b bs n k false false false true ed eo eh ef e = let is : Float ≡ k = cc in subst (IsNumberText b bs n) is (float_text b bs n ef)
number_by b bs n k false false false false ed eo eh ef e = cc

pub number_text : (b : ℕ) (bs : List ℕ) (n : ℕ) (k : TokenKind) → number_kind (b ∷ take n bs) ≡ Some k → IsNumberText b bs n k
number_text b bs n k e = number_by b bs n k (is_decimal (b ∷ take n bs)) (is_octal (b ∷ take n bs)) (is_hexadecimal (b ∷ take n bs)) (is_float (b ∷ take n bs)) refl refl refl refl e
