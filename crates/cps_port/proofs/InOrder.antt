-- Words and bounds have one order.
use Rattle.std.proofs.Common.{◌≡◌, ◌≢◌, ℕ, ◌-◌, ◌<◌, ◌≤◌, ◌^◌, ◌==◌, nat_lt, min, max, Bool, true, false, if◌then◌else◌, ◌⊎◌, ⊎_elim, inl, inr, ℤ, pos, negsuc, ◌≤ℤ◌, unsigned_abs, Option, Some, None, refl, sym, ap, ◌∙◌, arith}
use Rattle.std.specs.Int.{int_min, int_max}
use Rattle.std.proofs.lemmas.Int.{ints, int_min_is, int_max_is}
use Rattle.std.proofs.lemmas.Bool.Decides.{nat_tests}
use mathlib.Core.Logic.{dite}
use native.Mathlib.Decide.{dec_le}
use Rattle.cps_model.specs.declared.bound.Bound.{Bound}
use Rattle.cps_model.specs.declared.bound.Bound.TheVariants.{At, Infinite}
use Rattle.cps_port.specs.Order.{BoundLe, IsNoLower, IsSmallBound, lesser, greater, raised_to, raised_above, greater_of}
use Rattle.cps_port.proofs.BoundLaws.{greater_is}
use Rattle.cps_port.specs.Words.{top, value_word, word_of, raise_word, value_of, bound_of, HasWord, HasWords}

pub word_of-bound_of : (n : ℕ) → n ≤ top → word_of (bound_of n) ≡ n
word_of-bound_of n h = grind (arith, nat_tests)

value_back : (v : ℤ) → unsigned_abs v < 2 ^ 62 → value_of (value_word v) ≡ v
value_back (pos n) f = grind (arith, nat_tests)
value_back (negsuc n) f = grind (arith, nat_tests)

value_small : (v : ℤ) → unsigned_abs v < 2 ^ 62 → value_word v < 18446744073709551615
value_small (pos n) f = omega arith
value_small (negsuc n) f = omega arith

not_top : (n : ℕ) → n < 18446744073709551615 → (n == top) ≡ false
not_top n h = grind (arith, nat_tests)

pub has_word_at : (v : ℤ) → unsigned_abs v < 2 ^ 62 → HasWord (At v)
has_word_at v small = let s = value_small v small in record {
  fits = omega arith;
  back = ap (λ (t : Bool). if t then Infinite else At (value_of (value_word v))) (not_top (value_word v) s) ∙ ap At (value_back v small);
}

pub has_word_infinite : HasWord Infinite
has_word_infinite = record { fits = omega arith; back = refl }

pub has_word_small : (b : Bound) → IsSmallBound b → HasWord b
has_word_small (At v) h = has_word_at v h
has_word_small Infinite h = has_word_infinite

pub has_word_of : (n : ℕ) → n ≤ top → HasWord (bound_of n)
has_word_of n h = let e = word_of-bound_of n h in record { fits = omega arith; back = ap bound_of e }

value_grows : (x y : ℤ) → x ≤ℤ y → value_word x ≤ value_word y
value_grows (pos x) (pos y) h = omega (arith, ints)
value_grows (pos x) (negsuc y) h = absurd (omega (arith, ints))
value_grows (negsuc x) (pos y) h = omega (arith, ints)
value_grows (negsuc x) (negsuc y) h = omega (arith, ints)

up_or_down : (x y : ℤ) → (x ≤ℤ y) ⊎ (y ≤ℤ x)
up_or_down (pos x) (pos y) = dite (dec_le x y) (λ h. inl (omega (arith, ints))) (λ h. inr (omega (arith, ints)))
up_or_down (pos x) (negsuc y) = inr (omega (arith, ints))
up_or_down (negsuc x) (pos y) = inl (omega (arith, ints))
up_or_down (negsuc x) (negsuc y) = dite (dec_le y x) (λ h. inl (omega (arith, ints))) (λ h. inr (omega (arith, ints)))

same_int : (x y : ℤ) → x ≤ℤ y → y ≤ℤ x → x ≡ y
same_int x y p q = omega (arith, ints)

value_min : (x y : ℤ) → value_word (int_min x y) ≡ min (value_word x) (value_word y)
value_min x y = ⊎_elim
    (λ (h : x ≤ℤ y). let e : int_min x y ≡ x = same_int (int_min x y) x (omega (arith, ints, int_min_is)) (omega (arith, ints, int_min_is)) in let g = value_grows x y h in ap value_word e ∙ (let q : value_word x ≡ min (value_word x) (value_word y) = omega arith in q))
    (λ (h : y ≤ℤ x). let e : int_min x y ≡ y = same_int (int_min x y) y (omega (arith, ints, int_min_is)) (omega (arith, ints, int_min_is)) in let g = value_grows y x h in ap value_word e ∙ (let q : value_word y ≡ min (value_word x) (value_word y) = omega arith in q))
    (up_or_down x y)

value_max : (x y : ℤ) → value_word (int_max x y) ≡ max (value_word x) (value_word y)
value_max x y = ⊎_elim
    (λ (h : x ≤ℤ y). let e : int_max x y ≡ y = same_int (int_max x y) y (omega (arith, ints, int_max_is)) (omega (arith, ints, int_max_is)) in let g = value_grows x y h in ap value_word e ∙ (let q : value_word y ≡ max (value_word x) (value_word y) = omega arith in q))
    (λ (h : y ≤ℤ x). let e : int_max x y ≡ x = same_int (int_max x y) x (omega (arith, ints, int_max_is)) (omega (arith, ints, int_max_is)) in let g = value_grows y x h in ap value_word e ∙ (let q : value_word x ≡ max (value_word x) (value_word y) = omega arith in q))
    (up_or_down x y)

pub word_of-lesser : (a b : Bound) → word_of a ≤ top → word_of b ≤ top → word_of (lesser a b) ≡ min (word_of a) (word_of b)
word_of-lesser (At x) (At y) p q = value_min x y
word_of-lesser (At x) Infinite p q = omega arith
word_of-lesser Infinite b p q = omega arith

pub word_of-greater : (a b : Bound) → word_of a ≤ top → word_of b ≤ top → word_of (greater a b) ≡ max (word_of a) (word_of b)
word_of-greater (At x) (At y) p q = value_max x y
word_of-greater (At x) Infinite p q = omega arith
word_of-greater Infinite b p q = omega arith

pub raise_word-raised_to : (o : Option Bound) (b : Bound) → raise_word o ≤ top → word_of b ≤ top → raise_word (raised_to o b) ≡ max (raise_word o) (word_of b)
raise_word-raised_to None b p q = omega arith
raise_word-raised_to (Some a) b p q = word_of-greater a b p q

pub raise_word-greater_of : (o u : Option Bound) → raise_word o ≤ top → raise_word u ≤ top → raise_word (greater_of o u) ≡ max (raise_word o) (raise_word u)
raise_word-greater_of o None p q = omega arith
raise_word-greater_of o (Some b) p q = raise_word-raised_to o b p q

pub word_of-raised_above : (o : Option Bound) (b : Bound) → raise_word o ≤ top → word_of b ≤ top → word_of (raised_above o b) ≡ max (word_of b) (raise_word o)
word_of-raised_above None b p q = omega arith
word_of-raised_above (Some a) b p q = let e = word_of-greater a b p q in omega arith

pub raise_fits : (o : Option Bound) → HasWords o → raise_word o ≤ top
raise_fits None h = omega arith
raise_fits (Some b) h = h.fits

pub has_words-raised_to : (o : Option Bound) (b : Bound) → HasWords o → HasWord b → HasWords (raised_to o b)
has_words-raised_to None b p q = q
has_words-raised_to (Some a) b p q = greater_is HasWord a b p q

pub has_words-greater_of : (o u : Option Bound) → HasWords o → HasWords u → HasWords (greater_of o u)
has_words-greater_of o None p q = p
has_words-greater_of o (Some b) p q = has_words-raised_to o b p q

pub has_word-raised_above : (o : Option Bound) (b : Bound) → HasWords o → HasWord b → HasWord (raised_above o b)
has_word-raised_above None b p q = q
has_word-raised_above (Some a) b p q = greater_is HasWord a b p q

pub no_lower-raised : (o : Option Bound) (a b : Bound) → IsNoLower o b → BoundLe a b → IsNoLower (raised_to o a) b
no_lower-raised None a b p q = q
no_lower-raised (Some c) a b p q = greater_is (λ (x : Bound). BoundLe x b) c a p q

pub no_lower-greater_of : (o u : Option Bound) (b : Bound) → IsNoLower o b → IsNoLower u b → IsNoLower (greater_of o u) b
no_lower-greater_of o None b p q = p
no_lower-greater_of o (Some a) b p q = no_lower-raised o a b p q

-- two bounds with one word are one
pub same_word : (a b : Bound) → HasWord a → HasWord b → word_of a ≡ word_of b → a ≡ b
same_word a b p q e = sym p.back ∙ (ap bound_of e ∙ q.back)

-- the bounds of words in order are in order
grows_by : (s t : Bool) (x y : ℕ) → x ≤ y → y < 18446744073709551615 → (s ≡ true → x < 9223372036854775808) → (s ≡ false → 9223372036854775808 ≤ x) → (t ≡ true → y < 9223372036854775808) → (t ≡ false → 9223372036854775808 ≤ y)
    → (if s then negsuc (9223372036854775807 - x) else pos (x - 9223372036854775808)) ≤ℤ (if t then negsuc (9223372036854775807 - y) else pos (y - 9223372036854775808))
grows_by true true x y h l a b c d = let e = a refl in let f = c refl in omega (arith, ints)
grows_by true false x y h l a b c d = let e = a refl in let f = d refl in omega (arith, ints)
grows_by false true x y h l a b c d = let e = b refl in let f = c refl in absurd (omega arith)
grows_by false false x y h l a b c d = let e = b refl in let f = d refl in omega (arith, ints)

is_low : (n : ℕ) → nat_lt n 9223372036854775808 ≡ true → n < 9223372036854775808
is_low n h = grind (arith, nat_tests)

is_high : (n : ℕ) → nat_lt n 9223372036854775808 ≡ false → 9223372036854775808 ≤ n
is_high n h = grind (arith, nat_tests)

bounds_by : (s t : Bool) (x y : ℕ) → x ≤ y → y ≤ top → (s ≡ true → x ≡ top) → (t ≡ true → y ≡ top) → (t ≡ false → y ≢ top) → BoundLe (if s then Infinite else At (value_of x)) (if t then Infinite else At (value_of y))
bounds_by true true x y h l a b c = tt
bounds_by false true x y h l a b c = tt
bounds_by true false x y h l a b c = let e = a refl in absurd (c refl (omega arith))
bounds_by false false x y h l a b c = let n = c refl in grows_by (nat_lt x 9223372036854775808) (nat_lt y 9223372036854775808) x y h (omega arith) (is_low x) (is_high x) (is_low y) (is_high y)

is_top : (n : ℕ) → (n == top) ≡ true → n ≡ top
is_top n h = grind (arith, nat_tests)

is_not_top : (n : ℕ) → (n == top) ≡ false → n ≢ top
is_not_top n h = grind (arith, nat_tests)

pub bound_of-grows : (x y : ℕ) → x ≤ y → y ≤ top → BoundLe (bound_of x) (bound_of y)
bound_of-grows x y h l = bounds_by (x == top) (y == top) x y h l (is_top x) (is_top y) (is_not_top y)
