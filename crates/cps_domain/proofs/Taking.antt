-- What the code that takes a number out of a domain sees of the number's interval. The code's tests read each number
-- as its 64 bits.
use Rattle.std.proofs.Common.{ℕ, ◌+◌, ◌≤◌, ◌<◌, ◌-◌, ℤ, pos, negsuc, ◌+ℤ◌, ◌-ℤ◌, ◌≤ℤ◌, ◌<ℤ◌, ◌≡◌, Bool, true, false, sym, ◌∙◌, ap, subst, arith, ◌^◌, w64, FitsSigned, to_z, of_z}
use Rattle.std.specs.Prelude.{int_le, int_lt}
use Rattle.std.proofs.lemmas.Int.{ints, clamps, to_z-of_z, fits_signed_from_abs}
use Rattle.std.specs.Int.{int_min, int_max}
use Rattle.cps_domain.specs.Window.{Window, contains, IsDomain, least, greatest}
use Rattle.cps_domain.specs.Cuts.{Shrinks, IsParted, IsUpTo, IsFromOn}
use Rattle.cps_domain.proofs.Tests.{true_le, false_le}
use Rattle.cps_domain.proofs.Cutting.{gap_no}
use Rattle.cps_domain.proofs.Windows.{at, HasPlace, has_place, least_below, greatest_above}

-- a number as the code reads it
abbrev pub bits : ℤ → ℤ
bits x = to_z w64 (of_z w64 x)

-- a number of a domain fits
fits : (x : ℤ) → negsuc (2 ^ 62 - 1) <ℤ x → x <ℤ pos (2 ^ 62) → FitsSigned w64 x
fits x a b = fits_signed_from_abs w64 x (omega (arith, ints))

fits_low : (d : Window) (k : ℕ) → HasPlace d k → FitsSigned w64 (at d k).0
fits_low d k p = fits (at d k).0 p.low (let o = p.ordered in let h = p.high in omega (arith, ints))

fits_high : (d : Window) (k : ℕ) → HasPlace d k → FitsSigned w64 (at d k).1
fits_high d k p = fits (at d k).1 (let o = p.ordered in let l = p.low in omega (arith, ints)) p.high

-- what the code's tests say of two numbers that fit
bits_lt : (x y : ℤ) (b : Bool) → FitsSigned w64 x → FitsSigned w64 y → int_lt (bits x) (bits y) ≡ b → int_lt x y ≡ b
bits_lt x y b f g e = sym (ap (λ z. int_lt z (bits y)) (to_z-of_z w64 x f) ∙ ap (λ z. int_lt x z) (to_z-of_z w64 y g)) ∙ e

bits_le : (x y : ℤ) (b : Bool) → FitsSigned w64 x → FitsSigned w64 y → int_le (bits x) (bits y) ≡ b → int_le x y ≡ b
bits_le x y b f g e = sym (ap (λ z. int_le z (bits y)) (to_z-of_z w64 x f) ∙ ap (λ z. int_le x z) (to_z-of_z w64 y g)) ∙ e

pub is_lt : (x y : ℤ) → int_lt x y ≡ true → x <ℤ y
is_lt x y e = grind (arith, ints)

not_lt : (x y : ℤ) → int_lt x y ≡ false → y ≤ℤ x
not_lt x y e = grind (arith, ints)

both_ends : (x y : ℤ) → x ≤ℤ y → y ≤ℤ x → x ≡ y
both_ends x y a b = omega (arith, ints)

same_le : (x : ℤ) → x ≤ℤ x
same_le x = omega (arith, ints)

-- the number lies beyond the interval at an index
ends_before : (d : Window) (k : ℕ) (v : ℤ) (p : ℤ × ℤ) → IsDomain d → d.from ≤ k → k < d.to → FitsSigned w64 v → p ≡ at d k
    → int_lt (bits p.1) (bits v) ≡ true → (at d k).1 <ℤ v
ends_before d k v p h a b f i e =
    is_lt (at d k).1 v (bits_lt (at d k).1 v true (fits_high d k (has_place d k h a b)) f (subst (λ (q : ℤ × ℤ). int_lt (bits q.1) (bits v) ≡ true) i e))

-- and then it is no value
pub no_value : (d : Window) (k : ℕ) (v : ℤ) (p : ℤ × ℤ) → IsDomain d → d.from ≤ k → k < d.to → FitsSigned w64 v → p ≡ at d k
    → int_lt (bits p.1) (bits v) ≡ true → (k + 1 < d.to → bits v <ℤ (at d (k + 1)).0) → contains d v ≡ true → ⊥
no_value d k v p h a b f i e next c =
    gap_no d k v h a b (ends_before d k v p h a b f i e) (λ l. subst (λ z. z <ℤ (at d (k + 1)).0) (to_z-of_z w64 v f) (next l)) c

-- the number lies in the interval at an index
pub record IsHeld (d : Window) (k : ℕ) (v : ℤ) : Type 0 where
  pub domain : IsDomain d
  pub low : d.from ≤ k
  pub high : k < d.to
  pub begins : (at d k).0 ≤ℤ v
  pub ends : v ≤ℤ (at d k).1

pub held : (d : Window) (k : ℕ) (v : ℤ) (p : ℤ × ℤ) → IsDomain d → d.from ≤ k → k < d.to → (at d k).0 ≤ℤ bits v → FitsSigned w64 v → p ≡ at d k
    → int_lt (bits p.1) (bits v) ≡ false → IsHeld d k v
held d k v p h a b s f i e = record {
  domain = h;
  low = a;
  high = b;
  begins = subst (λ z. (at d k).0 ≤ℤ z) (to_z-of_z w64 v f) s;
  ends = not_lt (at d k).1 v (bits_lt (at d k).1 v false (fits_high d k (has_place d k h a b)) f (subst (λ (q : ℤ × ℤ). int_lt (bits q.1) (bits v) ≡ false) i e));
}

-- the number is the interval's least, or its greatest
pub is_low : (d : Window) (k : ℕ) (v : ℤ) (p : ℤ × ℤ) → IsHeld d k v → FitsSigned w64 v → p ≡ at d k
    → int_lt (bits p.0) (bits v) ≡ false → (at d k).0 ≡ v
is_low d k v p h f i e =
    both_ends (at d k).0 v h.begins
    (not_lt (at d k).0 v (bits_lt (at d k).0 v false (fits_low d k (has_place d k h.domain h.low h.high)) f (subst (λ (q : ℤ × ℤ). int_lt (bits q.0) (bits v) ≡ false) i e)))

pub is_high : (d : Window) (k : ℕ) (v : ℤ) (p : ℤ × ℤ) → IsHeld d k v → FitsSigned w64 v → p ≡ at d k
    → int_lt (bits v) (bits p.1) ≡ false → (at d k).1 ≡ v
is_high d k v p h f i e =
    both_ends (at d k).1 v
    (not_lt v (at d k).1 (bits_lt v (at d k).1 false f (fits_high d k (has_place d k h.domain h.low h.high)) (subst (λ (q : ℤ × ℤ). int_lt (bits v) (bits q.1) ≡ false) i e)))
    h.ends

-- the test of the least and the greatest value
pub has_one : (d : Window) (g l : ℤ) → IsDomain d → g ≡ greatest d → l ≡ least d → int_le (bits g) (bits l) ≡ true → greatest d ≤ℤ least d
has_one d g l h i j e =
    let s = h.some in
    true_le (greatest d) (least d)
    (bits_le (greatest d) (least d) true (fits_high d (d.to - 1) (has_place d (d.to - 1) h (omega arith) (omega arith))) (fits_low d d.from (has_place d d.from h (omega arith) s))
    (sym (ap (λ z. int_le (bits z) (bits l)) i ∙ ap (λ z. int_le (bits (greatest d)) (bits z)) j) ∙ e))

pub has_others : (d : Window) (g l : ℤ) → IsDomain d → g ≡ greatest d → l ≡ least d → int_le (bits g) (bits l) ≡ false → least d <ℤ greatest d
has_others d g l h i j e =
    let s = h.some in
    false_le (greatest d) (least d)
    (bits_le (greatest d) (least d) false (fits_high d (d.to - 1) (has_place d (d.to - 1) h (omega arith) (omega arith))) (fits_low d d.from (has_place d d.from h (omega arith) s))
    (sym (ap (λ z. int_le (bits z) (bits l)) i ∙ ap (λ z. int_le (bits (greatest d)) (bits z)) j) ∙ e))

pub only_value : (d : Window) (v x : ℤ) → IsDomain d → greatest d ≤ℤ least d → contains d v ≡ true → contains d x ≡ true → x ≡ v
only_value d v x h l m n = omega (arith, ints, least_below d x h n, greatest_above d x h n, least_below d v h m, greatest_above d v h m)

-- an interval as it was is within itself
pub shrinks_none : (d : Window) (k : ℕ) (q : ℤ × ℤ) → IsDomain d → d.from ≤ k → k < d.to → q ≡ at d k → Shrinks (at d k) q
shrinks_none d k q h a b e = subst (λ r. Shrinks (at d k) r) (sym e) (record { low = same_le (at d k).0; ordered = (has_place d k h a b).ordered; high = same_le (at d k).1 })

-- an end that is written as it was
pub low_same : (d : Window) (k : ℕ) (v x : ℤ) (p : ℤ × ℤ) → IsHeld d k v → p ≡ at d k → x ≡ bits p.0 → x ≡ (at d k).0
low_same d k v x p h i e = e ∙ ap (λ (q : ℤ × ℤ). bits q.0) i ∙ to_z-of_z w64 (at d k).0 (fits_low d k (has_place d k h.domain h.low h.high))

pub high_same : (d : Window) (k : ℕ) (v x : ℤ) (p : ℤ × ℤ) → IsHeld d k v → p ≡ at d k → x ≡ bits p.1 → x ≡ (at d k).1
high_same d k v x p h i e = e ∙ ap (λ (q : ℤ × ℤ). bits q.1) i ∙ to_z-of_z w64 (at d k).1 (fits_high d k (has_place d k h.domain h.low h.high))

is_above : (d : Window) (k : ℕ) (v : ℤ) (p : ℤ × ℤ) → IsHeld d k v → FitsSigned w64 v → p ≡ at d k → int_lt (bits p.0) (bits v) ≡ true → (at d k).0 <ℤ v
is_above d k v p h f i e =
    is_lt (at d k).0 v (bits_lt (at d k).0 v true (fits_low d k (has_place d k h.domain h.low h.high)) f (subst (λ (q : ℤ × ℤ). int_lt (bits q.0) (bits v) ≡ true) i e))

is_below : (d : Window) (k : ℕ) (v : ℤ) (p : ℤ × ℤ) → IsHeld d k v → FitsSigned w64 v → p ≡ at d k → int_lt (bits v) (bits p.1) ≡ true → v <ℤ (at d k).1
is_below d k v p h f i e =
    is_lt v (at d k).1 (bits_lt v (at d k).1 true f (fits_high d k (has_place d k h.domain h.low h.high)) (subst (λ (q : ℤ × ℤ). int_lt (bits v) (bits q.1) ≡ true) i e))

-- the next number after one that an interval has, and the one before it, as the code computes them
pub next_fits : (d : Window) (k : ℕ) (v : ℤ) → IsHeld d k v → FitsSigned w64 v → FitsSigned w64 (bits v +ℤ pos 1)
next_fits d k v h f =
    let p = has_place d k h.domain h.low h.high in
    let l = p.low in let g = p.high in let s = h.begins in let t = h.ends in
    subst (λ z. FitsSigned w64 (z +ℤ pos 1)) (sym (to_z-of_z w64 v f)) (fits_signed_from_abs w64 (v +ℤ pos 1) (omega (arith, ints)))

pub previous_fits : (d : Window) (k : ℕ) (v : ℤ) → IsHeld d k v → FitsSigned w64 v → FitsSigned w64 (bits v -ℤ pos 1)
previous_fits d k v h f =
    let p = has_place d k h.domain h.low h.high in
    let l = p.low in let g = p.high in let s = h.begins in let t = h.ends in
    subst (λ z. FitsSigned w64 (z -ℤ pos 1)) (sym (to_z-of_z w64 v f)) (fits_signed_from_abs w64 (v -ℤ pos 1) (omega (arith, ints)))

pub next_same : (d : Window) (k : ℕ) (v x : ℤ) → IsHeld d k v → FitsSigned w64 v → x ≡ bits (bits v +ℤ pos 1) → x ≡ v +ℤ pos 1
next_same d k v x h f e = e ∙ to_z-of_z w64 (bits v +ℤ pos 1) (next_fits d k v h f) ∙ ap (λ z. z +ℤ pos 1) (to_z-of_z w64 v f)

pub previous_same : (d : Window) (k : ℕ) (v x : ℤ) → IsHeld d k v → FitsSigned w64 v → x ≡ bits (bits v -ℤ pos 1) → x ≡ v -ℤ pos 1
previous_same d k v x h f e = e ∙ to_z-of_z w64 (bits v -ℤ pos 1) (previous_fits d k v h f) ∙ ap (λ z. z -ℤ pos 1) (to_z-of_z w64 v f)

-- the interval without its end, and without a number inside
pub shrinks_one : (d : Window) (k : ℕ) (v : ℤ) (q : ℤ × ℤ) → IsHeld d k v → FitsSigned w64 v → q.0 ≡ bits v → q.1 ≡ bits v → Shrinks (at d k) q
shrinks_one d k v q h f a b =
    let x = a ∙ to_z-of_z w64 v f in
    let y = b ∙ to_z-of_z w64 v f in
    let s = h.begins in let t = h.ends in
    record { low = omega (arith, ints); ordered = omega (arith, ints); high = omega (arith, ints) }

pub shrinks_left : (d : Window) (k : ℕ) (v : ℤ) (p q : ℤ × ℤ) → IsHeld d k v → FitsSigned w64 v → p ≡ at d k → q.0 ≡ bits p.0 → q.1 ≡ v -ℤ pos 1
    → int_lt (bits p.0) (bits v) ≡ true → Shrinks (at d k) q
shrinks_left d k v p q h f i e g l =
    let x = low_same d k v q.0 p h i e in
    let y = is_above d k v p h f i l in
    let z = h.ends in
    record { low = omega (arith, ints); ordered = omega (arith, ints); high = omega (arith, ints) }

pub shrinks_right : (d : Window) (k : ℕ) (v : ℤ) (p q : ℤ × ℤ) → IsHeld d k v → FitsSigned w64 v → p ≡ at d k → q.0 ≡ v +ℤ pos 1 → q.1 ≡ bits p.1
    → int_lt (bits v) (bits p.1) ≡ true → Shrinks (at d k) q
shrinks_right d k v p q h f i e g l =
    let x = high_same d k v q.1 p h i g in
    let y = is_below d k v p h f i l in
    let z = h.begins in
    record { low = omega (arith, ints); ordered = omega (arith, ints); high = omega (arith, ints) }

pub is_parted : (d : Window) (k : ℕ) (v : ℤ) (p a b : ℤ × ℤ) → IsHeld d k v → FitsSigned w64 v → p ≡ at d k → a.0 ≡ bits p.0 → a.1 ≡ v -ℤ pos 1 → b.0 ≡ v +ℤ pos 1 → b.1 ≡ bits p.1
    → int_lt (bits p.0) (bits v) ≡ true → int_lt (bits v) (bits p.1) ≡ true → IsParted (at d k) a b
is_parted d k v p a b h f i e1 e2 e3 e4 l m =
    let x = low_same d k v a.0 p h i e1 in
    let y = high_same d k v b.1 p h i e4 in
    let w = is_above d k v p h f i l in
    let z = is_below d k v p h f i m in
    record { low = x; left = omega (arith, ints); gap = omega (arith, ints); right = omega (arith, ints); high = y }

-- the part of an interval up to a number, and from one on, by the lesser and the greater of two ends
lesser_first : (x y : ℤ) → x ≤ℤ y → int_min x y ≡ x
lesser_first x y h = omega (arith, ints, clamps)

lesser_second : (x y : ℤ) → y ≤ℤ x → int_min x y ≡ y
lesser_second x y h = omega (arith, ints, clamps)

greater_first : (x y : ℤ) → y ≤ℤ x → int_max x y ≡ x
greater_first x y h = omega (arith, ints, clamps)

greater_second : (x y : ℤ) → x ≤ℤ y → int_max x y ≡ y
greater_second x y h = omega (arith, ints, clamps)

pub part_up_to : (p : ℤ × ℤ) (v m : ℤ) → FitsSigned w64 p.0 → FitsSigned w64 p.1 → FitsSigned w64 v → m ≡ int_min (bits p.1) (bits v) → IsUpTo p v (bits p.0, bits m)
part_up_to p v m f g h e =
    let is = e ∙ ap (λ z. int_min z (bits v)) (to_z-of_z w64 p.1 g) ∙ ap (λ z. int_min p.1 z) (to_z-of_z w64 v h) in
    record {
      low = to_z-of_z w64 p.0 f;
      all = λ l. ap bits (is ∙ lesser_first p.1 v l) ∙ to_z-of_z w64 p.1 g;
      cut = λ l. ap bits (is ∙ lesser_second p.1 v l) ∙ to_z-of_z w64 v h;
    }

pub part_from_on : (p : ℤ × ℤ) (v m : ℤ) → FitsSigned w64 p.0 → FitsSigned w64 p.1 → FitsSigned w64 v → m ≡ int_max (bits p.0) (bits v) → IsFromOn p v (bits m, bits p.1)
part_from_on p v m f g h e =
    let is = e ∙ ap (λ z. int_max z (bits v)) (to_z-of_z w64 p.0 f) ∙ ap (λ z. int_max p.0 z) (to_z-of_z w64 v h) in
    record {
      high = to_z-of_z w64 p.1 g;
      all = λ l. ap bits (is ∙ greater_first p.0 v l) ∙ to_z-of_z w64 p.0 f;
      cut = λ l. ap bits (is ∙ greater_second p.0 v l) ∙ to_z-of_z w64 v h;
    }
