-- Numbers that are the same in a wider type, and sums that fit.
use Rattle.std.proofs.Common.{◌≡◌, ◌∙◌, ◌≤◌, ◌<◌, ◌^◌, ◌+ℤ◌, ℤ, pos, negsuc, unsigned_abs, FitsSigned, ap, arith}
use Rattle.std.proofs.lemmas.Int.{ints, to_z-of_z, fits_signed_from_abs}
use mir.Val.{to_z, of_z}
use mir.Syntax.{w64, w128}
use Rattle.cps_trail.specs.Trail.{IsInside}

small : (v : ℤ) → IsInside v → unsigned_abs v < 2 ^ 63
small (pos n) h = let high = h.high in omega (arith, ints)
small (negsuc n) h = let low = h.low in omega (arith, ints)

pub same_wide : (v : ℤ) → IsInside v → to_z w128 (of_z w128 (to_z w64 (of_z w64 v))) ≡ v
same_wide v h =
    let l = small v h in
    ap (λ (x : ℤ). to_z w128 (of_z w128 x)) (to_z-of_z w64 v (fits_signed_from_abs w64 v l)) ∙ to_z-of_z w128 v (fits_signed_from_abs w128 v (omega arith))

number_size : (n : ℤ) → FitsSigned w64 n → unsigned_abs n ≤ 2 ^ 63
number_size (pos n) f = let g = f.sfits in omega (arith, ints)
number_size (negsuc n) f = let g = f.sfits in omega (arith, ints)

wide_number : (n : ℤ) → FitsSigned w64 n → to_z w128 (of_z w128 (to_z w64 (of_z w64 n))) ≡ n
wide_number n f =
    let s = number_size n f in
    ap (λ (x : ℤ). to_z w128 (of_z w128 x)) (to_z-of_z w64 n f) ∙ to_z-of_z w128 n (fits_signed_from_abs w128 n (omega arith))

-- the sum of a value that may stand in a fact and of a number
pub same_sum : (v n : ℤ) → IsInside v → FitsSigned w64 n → to_z w128 (of_z w128 (to_z w128 (of_z w128 (to_z w64 (of_z w64 v))) +ℤ to_z w128 (of_z w128 (to_z w64 (of_z w64 n))))) ≡ v +ℤ n
same_sum v n h f =
    let l = small v h in
    let s = number_size n f in
    ap (λ (x : ℤ). to_z w128 (of_z w128 (x +ℤ to_z w128 (of_z w128 (to_z w64 (of_z w64 n)))))) (same_wide v h) ∙ ap (λ (x : ℤ). to_z w128 (of_z w128 (v +ℤ x))) (wide_number n f)
    ∙ to_z-of_z w128 (v +ℤ n) (fits_signed_from_abs w128 (v +ℤ n) (omega (arith, ints)))
