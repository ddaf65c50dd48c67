-- The words of values below 0, and when two bounds have met, in the code's 64 and 128 bits.
use Rattle.std.proofs.Common.{ℕ, ◌-◌, ◌≤◌, ◌<◌, ◌^◌, ℤ, pos, negsuc, ◌+ℤ◌, ◌-ℤ◌, ◌≡◌, Bool, true, false, true≢false, if◌then◌else◌, refl, sym, subst, ◌∙◌, ap, arith, w64, FitsSigned, to_z, of_z}
use Rattle.std.specs.Prelude.{int_le, unsigned_abs}
use Rattle.std.proofs.lemmas.Int.{ints, to_z-of_z, to_z_pos, fits_signed_from_abs}
use Rattle.std.proofs.lemmas.Bool.{lt-ltb}
use mir.Syntax.{w128}
use lib.Dec.{T}
use lib.Signed.{non_neg}
use Rattle.cps_port.specs.Words.{value_of, value_word}

-- a number as the code reads it
abbrev bits : ℤ → ℤ
bits x = to_z w64 (of_z w64 x)

abbrev wide : ℤ → ℤ
wide x = to_z w128 (of_z w128 x)

-- one below the opposite of a number
below_opposite : (n : ℕ) → n < 9223372036854775808 → bits (bits (pos 0 -ℤ to_z w64 n) -ℤ pos 1) ≡ negsuc n
below_opposite n h =
    let f : FitsSigned w64 (pos 0 -ℤ pos n) = fits_signed_from_abs w64 (pos 0 -ℤ pos n) (omega (arith, ints)) in
    let e : (pos 0 -ℤ pos n) -ℤ pos 1 ≡ negsuc n = omega (arith, ints) in
    ap (λ z. bits (bits (pos 0 -ℤ z) -ℤ pos 1)) (to_z_pos w64 n h)
    ∙ ap (λ z. bits (z -ℤ pos 1)) (to_z-of_z w64 (pos 0 -ℤ pos n) f)
    ∙ ap bits e
    ∙ to_z-of_z w64 (negsuc n) (record { sfits = h })

pub value_below : (w : ℕ) → w < 9223372036854775808 → bits (bits (pos 0 -ℤ to_z w64 (9223372036854775807 - w)) -ℤ pos 1) ≡ value_of w
value_below w h =
    below_opposite (9223372036854775807 - w) (omega arith)
    ∙ sym (ap (λ (t : Bool). if t then negsuc (9223372036854775807 - w) else pos (w - 9223372036854775808)) (lt-ltb w 9223372036854775808 h))

-- how far a value below 0 lies below -1
opposite_above : (n : ℕ) → FitsSigned w64 (negsuc n) → bits (pos 0 -ℤ bits (bits (negsuc n) +ℤ pos 1)) ≡ pos n
opposite_above n f =
    let g : FitsSigned w64 (negsuc n +ℤ pos 1) = fits_signed_from_abs w64 (negsuc n +ℤ pos 1) (omega (arith, ints, f.sfits)) in
    let e : pos 0 -ℤ (negsuc n +ℤ pos 1) ≡ pos n = omega (arith, ints) in
    ap (λ z. bits (pos 0 -ℤ bits (z +ℤ pos 1))) (to_z-of_z w64 (negsuc n) f)
    ∙ ap (λ z. bits (pos 0 -ℤ z)) (to_z-of_z w64 (negsuc n +ℤ pos 1) g)
    ∙ ap bits e
    ∙ to_z-of_z w64 (pos n) (record { sfits = f.sfits })

-- the word of a value that is not at least 0
pub record IsWordBelow (v : ℤ) (x : ℤ) : Type 0 where
  pub positive : T (non_neg x)
  pub small : unsigned_abs x ≤ 9223372036854775807
  pub word : 9223372036854775807 - unsigned_abs x ≡ value_word v

pub word_below : (v : ℤ) → FitsSigned w64 v → int_le (pos 0) (bits v) ≡ false → IsWordBelow v (bits (pos 0 -ℤ bits (bits v +ℤ pos 1)))
word_below (pos n) f e = absurd (true≢false (sym (at_least n) ∙ sym (ap (λ z. int_le (pos 0) z) (to_z-of_z w64 (pos n) f)) ∙ e)) where
  at_least : (n : ℕ) → int_le (pos 0) (pos n) ≡ true
  at_least n = grind (arith, ints)
word_below (negsuc n) f e = subst (λ x. IsWordBelow (negsuc n) x) (sym (opposite_above n f)) (record { positive = tt; small = omega (arith, f.sfits); word = refl })

-- the test of two bounds that are values, in 128 bits
wide_is : (x : ℤ) → FitsSigned w64 x → wide x ≡ x
wide_is x f = to_z-of_z w128 x (record { sfits = omega (arith, f.sfits) })

pub met_by : (x y z h l : ℤ) (n : ℕ) → x ≡ bits h → y ≡ bits l → z ≡ pos n → FitsSigned w64 h → FitsSigned w64 l → n < 2 ^ 64
    → int_le (wide x) (wide (wide y +ℤ wide z)) ≡ int_le h (l +ℤ pos n)
met_by x y z h l n e f g fh fl b =
    let sum : FitsSigned w128 (l +ℤ pos n) = fits_signed_from_abs w128 (l +ℤ pos n) (omega (arith, ints, fl.sfits)) in
    ap (λ v. int_le (wide v) (wide (wide y +ℤ wide z))) (e ∙ to_z-of_z w64 h fh)
    ∙ ap (λ v. int_le v (wide (wide y +ℤ wide z))) (wide_is h fh)
    ∙ ap (λ v. int_le h (wide (wide v +ℤ wide z))) (f ∙ to_z-of_z w64 l fl)
    ∙ ap (λ v. int_le h (wide (v +ℤ wide z))) (wide_is l fl)
    ∙ ap (λ v. int_le h (wide (l +ℤ wide v))) g
    ∙ ap (λ v. int_le h (wide (l +ℤ v))) (to_z-of_z w128 (pos n) (record { sfits = omega arith }))
    ∙ ap (λ v. int_le h v) (to_z-of_z w128 (l +ℤ pos n) sum)
