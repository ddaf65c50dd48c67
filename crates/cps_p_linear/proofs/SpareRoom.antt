-- What is left between the ends of a sum and the numbers that are admitted.
use Rattle.std.specs.Prelude.{unsigned_abs}
use Rattle.std.proofs.Common.{◌≡◌, ℕ, ◌+◌, ◌<◌, ◌^◌, ℤ, pos, ◌+ℤ◌, ◌-ℤ◌, ◌≤ℤ◌, true, arith, FitsSigned, w64}
use Rattle.std.proofs.lemmas.Int.{ints, by_lt_z, fits_signed_from_abs}
use Rattle.cps_propagate.specs.Strength.{IsFirstFrom, IsLastUpTo}
use Rattle.cps_p_linear.specs.declared.admitted.Admitted.{Admitted}
use Rattle.cps_p_linear.specs.Admitting.{passes}

-- what is small beside another number fits, and so does their difference
pub beside_fits : (a b : ℤ) → unsigned_abs a + unsigned_abs b < 2 ^ 63 → FitsSigned w64 b
beside_fits a b small = fits_signed_from_abs w64 b (omega (arith, small))

pub difference_fits : (a b : ℤ) → unsigned_abs a + unsigned_abs b < 2 ^ 63 → FitsSigned w64 (a -ℤ b)
difference_fits a b small = omega (arith, ints)

-- an end that is weakened by less than what parts it from the next number admits no more
pub spare_low : (admitted : Admitted) (low before last : ℤ) (slack : ℕ) → before ≡ low -ℤ pos 1 → slack ≡ unsigned_abs (before -ℤ last) → IsLastUpTo (passes admitted) before last
    → (v : ℤ) → passes admitted v ≡ true → low ≤ℤ (v +ℤ pos slack) → low ≤ℤ (v +ℤ pos 0)
spare_low admitted low before last slack is size l v h near =
    let up = l.before in
    by_lt_z v low (λ m. (let k = l.greatest v h (omega (arith, ints)) in absurd (omega (arith, ints)))) (λ m. omega (arith, ints))

pub spare_high : (admitted : Admitted) (high after first : ℤ) (slack : ℕ) → after ≡ high +ℤ pos 1 → slack ≡ unsigned_abs (first -ℤ after) → IsFirstFrom (passes admitted) after first
    → (v : ℤ) → passes admitted v ≡ true → v ≤ℤ (high +ℤ pos slack) → v ≤ℤ (high +ℤ pos 0)
spare_high admitted high after first slack is size f v h near =
    let from = f.after in
    by_lt_z high v (λ m. (let k = f.least v h (omega (arith, ints)) in absurd (omega (arith, ints)))) (λ m. omega (arith, ints))
