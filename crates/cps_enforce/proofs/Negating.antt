-- A fact has a value that leaves room for its negation.
use Rattle.std.proofs.Common.{ℤ, pos, negsuc, ◌≤ℤ◌, ◌<ℤ◌, ◌^◌, ◌-◌, arith}
use Rattle.std.proofs.lemmas.Int.{ints}
use Rattle.cps_trail.specs.Trail.{IsInside}

pub negatable_low : (v : ℤ) → IsInside v → negsuc (2 ^ 62 - 1) ≤ℤ v
negatable_low v h = let low = h.low in omega (arith, ints)

pub negatable_high : (v : ℤ) → IsInside v → v ≤ℤ pos (2 ^ 62)
negatable_high v h = let high = h.high in omega (arith, ints)

pub negatable_above : (v : ℤ) → IsInside v → v <ℤ pos (2 ^ 62)
negatable_above v h = let high = h.high in omega (arith, ints)

pub negatable_below : (v : ℤ) → IsInside v → negsuc (2 ^ 62 - 1) <ℤ v
negatable_below v h = let low = h.low in omega (arith, ints)
