-- A value that a subject may have leaves room for the negation of its comparison.
use Rattle.std.proofs.Common.{ℤ, pos, negsuc, ◌≤ℤ◌, ◌<ℤ◌, ◌^◌, ◌-◌, subst, arith, FitsSigned, w64, to_z, of_z}
use Rattle.std.proofs.lemmas.Int.{ints, to_z-of_z}
use Rattle.cps_trail.specs.Trail.{IsInside}

-- a value that is tested in the machine's type, as a number
pub tested : (v : ℤ) → FitsSigned w64 v → IsInside (to_z w64 (of_z w64 v)) → IsInside v
tested v fits h = subst (λ (x : ℤ). IsInside x) (to_z-of_z w64 v fits) h

pub negatable_below : (v : ℤ) → IsInside v → negsuc (2 ^ 62 - 1) <ℤ v
negatable_below v h = (let l = h.low in omega (arith, ints))

pub negatable_above : (v : ℤ) → IsInside v → v <ℤ pos (2 ^ 62)
negatable_above v h = (let l = h.high in omega (arith, ints))

less : (a b : ℤ) → a <ℤ b → a ≤ℤ b
less a b l = omega (arith, ints)

pub negatable_low : (v : ℤ) → IsInside v → negsuc (2 ^ 62 - 1) ≤ℤ v
negatable_low v h = less (negsuc (2 ^ 62 - 1)) v (negatable_below v h)

pub negatable_high : (v : ℤ) → IsInside v → v ≤ℤ pos (2 ^ 62)
negatable_high v h = less v (pos (2 ^ 62)) (negatable_above v h)
