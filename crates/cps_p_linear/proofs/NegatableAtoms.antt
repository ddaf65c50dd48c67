-- The value of an atom that can be negated leaves room on both sides.
use Rattle.std.proofs.Common.{◌^◌, ◌-◌, ℤ, pos, negsuc, ◌≤ℤ◌, ◌<ℤ◌, arith}
use Rattle.std.proofs.lemmas.Int.{ints}
use Rattle.cps_trail.specs.Trail.{IsInside}

module _ {v : ℤ} where
  pub negatable_low : IsInside v → negsuc (2 ^ 62 - 1) ≤ℤ v
  negatable_low h = let low = h.low in omega (arith, ints)

  pub negatable_high : IsInside v → v ≤ℤ pos (2 ^ 62)
  negatable_high h = let high = h.high in omega (arith, ints)

  pub negatable_above : IsInside v → v <ℤ pos (2 ^ 62)
  negatable_above h = let high = h.high in omega (arith, ints)

  pub negatable_below : IsInside v → negsuc (2 ^ 62 - 1) <ℤ v
  negatable_below h = let low = h.low in omega (arith, ints)
