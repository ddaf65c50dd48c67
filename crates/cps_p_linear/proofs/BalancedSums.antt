-- The one number that a defined sum can be.
use Rattle.std.specs.Prelude.{unsigned_abs}
use Rattle.std.proofs.Common.{◌≡◌, ◌<◌, ◌^◌, ℤ, pos, ◌-ℤ◌, ◌≤ℤ◌, true, arith, FitsSigned, w64}
use Rattle.std.proofs.lemmas.Int.{ints}
use Rattle.cps_propagate.specs.Strength.{is_balanced, IsFirstFrom, IsLastUpTo}

pub opposite_fits : (offset : ℤ) → unsigned_abs offset < 2 ^ 62 → FitsSigned w64 (pos 0 -ℤ offset)
opposite_fits offset small = omega (arith, ints)

balanced_at : (offset : ℤ) → is_balanced offset (pos 0 -ℤ offset) ≡ true
balanced_at offset = grind (arith, ints)

balanced_is : (offset v : ℤ) → is_balanced offset v ≡ true → v ≡ pos 0 -ℤ offset
balanced_is offset v h = grind (arith, ints)

pub first_balanced : (offset low : ℤ) → low ≤ℤ (pos 0 -ℤ offset) → IsFirstFrom (is_balanced offset) low (pos 0 -ℤ offset)
first_balanced offset low l = record { passing = balanced_at offset; after = l; least = λ v h q. (let e = balanced_is offset v h in omega (arith, ints)) }

pub last_balanced : (offset high : ℤ) → (pos 0 -ℤ offset) ≤ℤ high → IsLastUpTo (is_balanced offset) high (pos 0 -ℤ offset)
last_balanced offset high l = record { passing = balanced_at offset; before = l; greatest = λ v h q. (let e = balanced_is offset v h in omega (arith, ints)) }
