-- The least and the greatest product with a number that is left.
use Rattle.std.specs.Prelude.{FitsSigned, unsigned_abs, ◌^◌}
use Rattle.std.specs.Int.{int_min, int_max}
use Rattle.std.proofs.Common.{◌≡◌, Bool, true, false, sym, ◌∙◌, ap, arith, ℤ, pos, negsuc, neg_ℤ, ◌*ℤ◌, ◌-ℤ◌, ◌≤ℤ◌, ◌<◌, refl, to_z, of_z, w32, w64, subst}
use lib.Signed.{lt_z}
use Rattle.std.proofs.lemmas.Int.{ints, to_z-of_z}
use Rattle.cps_model.proofs.Products.{times_grows, times_shrinks}
use Rattle.cps_model.proofs.Divisors.{times_neg}
use Rattle.cps_validate.specs.Signs.{with_sign_of}
use Rattle.cps_log.specs.Subjects.{IsNear}
use Rattle.cps_log.specs.Boxes.{Spans}
use Rattle.cps_subjects.proofs.Near.{near_fits}

min_first : (a b : ℤ) → a ≤ℤ b → int_min a b ≡ a
min_first a b h = grind (arith, ints)

min_second : (a b : ℤ) → b ≤ℤ a → int_min a b ≡ b
min_second a b h = grind (arith, ints)

max_second : (a b : ℤ) → a ≤ℤ b → int_max a b ≡ b
max_second a b h = grind (arith, ints)

max_first : (a b : ℤ) → b ≤ℤ a → int_max a b ≡ a
max_first a b h = grind (arith, ints)

-- a number of a domain, and its ends
pub record HasRange (admits : ℤ → Bool) (l g : ℤ) : Type 0 where
  pub least : admits l ≡ true
  pub greatest : admits g ≡ true
  pub above : (x : ℤ) → admits x ≡ true → l ≤ℤ x
  pub below : (x : ℤ) → admits x ≡ true → x ≤ℤ g

pub product_spans : (admits : ℤ → Bool) (c l g : ℤ) → HasRange admits l g → Spans admits (λ x. c *ℤ x) (int_min (c *ℤ l) (c *ℤ g)) (int_max (c *ℤ l) (c *ℤ g))
product_spans admits (pos c) l g r =
    let up : pos 0 ≤ℤ pos c = omega (arith, ints) in
    let order = times_grows (pos c) l g up (r.above g r.greatest) in
    record {
      above = λ x h. rw (min_first (pos c *ℤ l) (pos c *ℤ g) order) (times_grows (pos c) l x up (r.above x h));
      below = λ x h. rw (max_second (pos c *ℤ l) (pos c *ℤ g) order) (times_grows (pos c) x g up (r.below x h));
      lowest = (l, r.least, sym (min_first (pos c *ℤ l) (pos c *ℤ g) order));
      highest = (g, r.greatest, sym (max_second (pos c *ℤ l) (pos c *ℤ g) order));
    }
product_spans admits (negsuc c) l g r =
    let down : negsuc c ≤ℤ pos 0 = omega (arith, ints) in
    let order = times_shrinks (negsuc c) l g down (r.above g r.greatest) in
    record {
      above = λ x h. rw (min_second (negsuc c *ℤ l) (negsuc c *ℤ g) order) (times_shrinks (negsuc c) x g down (r.below x h));
      below = λ x h. rw (max_first (negsuc c *ℤ l) (negsuc c *ℤ g) order) (times_shrinks (negsuc c) l x down (r.above x h));
      lowest = (g, r.greatest, sym (min_second (negsuc c *ℤ l) (negsuc c *ℤ g) order));
      highest = (l, r.least, sym (max_first (negsuc c *ℤ l) (negsuc c *ℤ g) order));
    }

-- the opposite of each product
pub opposite_spans : (admits : ℤ → Bool) (c low high : ℤ) → Spans admits (λ x. c *ℤ x) low high → Spans admits (λ x. c *ℤ neg_ℤ x) (neg_ℤ high) (neg_ℤ low)
opposite_spans admits c low high s = record {
  above = λ x h. (let below = s.below x h in rw (times_neg c x) (omega (arith, ints)));
  below = λ x h. (let above = s.above x h in rw (times_neg c x) (omega (arith, ints)));
  lowest = (let at = s.highest in (at.0, at.1, times_neg c at.0 ∙ ap neg_ℤ at.2));
  highest = (let at = s.lowest in (at.0, at.1, times_neg c at.0 ∙ ap neg_ℤ at.2));
}

-- ---- in 64 bits

bits : (z : ℤ) → IsNear z → to_z w64 (of_z w64 z) ≡ z
bits z h = to_z-of_z w64 z (near_fits z h)

pub products_are : (f : ℤ → ℤ → ℤ) (a l g r : ℤ) → FitsSigned w64 a → FitsSigned w64 l → FitsSigned w64 g → IsNear (a *ℤ l) → IsNear (a *ℤ g)
    → r ≡ f (to_z w64 (of_z w64 (to_z w64 (of_z w64 a) *ℤ to_z w64 (of_z w64 l)))) (to_z w64 (of_z w64 (to_z w64 (of_z w64 a) *ℤ to_z w64 (of_z w64 g)))) → r ≡ f (a *ℤ l) (a *ℤ g)
products_are f a l g r fa fl fg hl hg e = e ∙ rw (to_z-of_z w64 a fa, to_z-of_z w64 l fl, to_z-of_z w64 g fg, bits (a *ℤ l) hl, bits (a *ℤ g) hg) refl

opposite_near : (z : ℤ) → IsNear z → IsNear (pos 0 -ℤ z)
opposite_near z h = omega (arith, ints)

pub opposite_fits : (z : ℤ) → IsNear z → FitsSigned w64 (pos 0 -ℤ to_z w64 (of_z w64 z))
opposite_fits z h = rw (bits z h) (near_fits (pos 0 -ℤ z) (opposite_near z h))

pub opposite_is : (z : ℤ) → IsNear z → to_z w64 (of_z w64 (pos 0 -ℤ to_z w64 (of_z w64 z))) ≡ neg_ℤ z
opposite_is z h = to_z-of_z w64 (pos 0 -ℤ to_z w64 (of_z w64 z)) (opposite_fits z h) ∙ rw (bits z h) (omega (arith, ints))

-- numbers in 64 bits that are the ends of products, each of them small
pub record AreEnds (admits : ℤ → Bool) (a low high : ℤ) : Type 0 where
  pub spans : Spans admits (λ x. a *ℤ x) low high
  pub low_near : IsNear low
  pub high_near : IsNear high

pub are_ends : (admits : ℤ → Bool) (a l g low high : ℤ) → FitsSigned w64 a → FitsSigned w64 l → FitsSigned w64 g → HasRange admits l g → ((x : ℤ) → admits x ≡ true → unsigned_abs (a *ℤ x) < 2 ^ 62)
    → low ≡ int_min (to_z w64 (of_z w64 (to_z w64 (of_z w64 a) *ℤ to_z w64 (of_z w64 l)))) (to_z w64 (of_z w64 (to_z w64 (of_z w64 a) *ℤ to_z w64 (of_z w64 g))))
    → high ≡ int_max (to_z w64 (of_z w64 (to_z w64 (of_z w64 a) *ℤ to_z w64 (of_z w64 l)))) (to_z w64 (of_z w64 (to_z w64 (of_z w64 a) *ℤ to_z w64 (of_z w64 g))))
    → AreEnds admits a low high
are_ends admits a l g low high fa fl fg range small e f =
    let near : (x : ℤ) → admits x ≡ true → IsNear (a *ℤ x) = (λ x h. (let s = small x h in omega arith)) in
    let low_is = products_are int_min a l g low fa fl fg (near l range.least) (near g range.greatest) e in
    let high_is = products_are int_max a l g high fa fl fg (near l range.least) (near g range.greatest) f in
    let spans : Spans admits (λ x. a *ℤ x) low high = rw (low_is, high_is) (product_spans admits a l g range) in
    let lowest = spans.lowest in
    let highest = spans.highest in
    record {
      spans = spans;
      low_near = subst (λ (z : ℤ). IsNear z) lowest.2 (near lowest.0 lowest.1);
      high_near = subst (λ (z : ℤ). IsNear z) highest.2 (near highest.0 highest.1);
    }

pub ends_shown : (admits : ℤ → Bool) (a r low high : ℤ) → AreEnds admits a low high → pos 0 ≤ℤ r → Spans admits (λ x. a *ℤ with_sign_of r x) (to_z w64 (of_z w64 low)) (to_z w64 (of_z w64 high))
ends_shown admits a (pos i) low high e h = rw (bits low e.low_near, bits high e.high_near) e.spans
ends_shown admits a (negsuc i) low high e h = absurd (omega (arith, ints))

pub opposite_shown : (admits : ℤ → Bool) (a r low high : ℤ) → AreEnds admits a low high → (pos 0 ≤ℤ r → ⊥)
    → Spans admits (λ x. a *ℤ with_sign_of r x) (to_z w64 (of_z w64 (pos 0 -ℤ to_z w64 (of_z w64 high)))) (to_z w64 (of_z w64 (pos 0 -ℤ to_z w64 (of_z w64 low))))
opposite_shown admits a (pos i) low high e h = absurd (h (omega (arith, ints)))
opposite_shown admits a (negsuc i) low high e h = rw (opposite_is low e.low_near, opposite_is high e.high_near) (opposite_spans admits a low high e.spans)

at_least_zero : (r : ℤ) → lt_z r (pos 0) ≡ false → pos 0 ≤ℤ r
at_least_zero r h = grind (arith, ints)

below_zero : (r : ℤ) → lt_z r (pos 0) ≡ true → pos 0 ≤ℤ r → ⊥
below_zero r h l = grind (arith, ints)

pub is_positive : (r : ℤ) → FitsSigned w32 r → lt_z (to_z w32 (of_z w32 r)) (pos 0) ≡ false → pos 0 ≤ℤ r
is_positive r f h = at_least_zero r (subst (λ (z : ℤ). lt_z z (pos 0) ≡ false) (to_z-of_z w32 r f) h)

pub is_opposite : (r : ℤ) → FitsSigned w32 r → lt_z (to_z w32 (of_z w32 r)) (pos 0) ≡ true → pos 0 ≤ℤ r → ⊥
is_opposite r f h = below_zero r (subst (λ (z : ℤ). lt_z z (pos 0) ≡ true) (to_z-of_z w32 r f) h)
