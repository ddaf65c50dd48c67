-- A literal's value is near enough to 0 for the literal to be negated.
use Rattle.std.proofs.Common.{◌^◌, ◌-◌, pos, negsuc, ◌≤ℤ◌, arith}
use Rattle.std.specs.Prelude.{◌<ℤ◌}
use Rattle.std.proofs.lemmas.Int.{ints}
use Rattle.cps_literal.specs.declared.atom.Atom.{Atom}
use Rattle.cps_instance.specs.Terms.{Domains}
use Rattle.cps_p_bool.specs.Denying.{IsFit}

module _ {first : Domains} {u : Atom} where
  pub negatable_low : IsFit first u → negsuc (2 ^ 62 - 1) ≤ℤ u.value
  negatable_low h = let low = h.literal.low in omega (arith, ints)

  pub negatable_high : IsFit first u → u.value ≤ℤ pos (2 ^ 62)
  negatable_high h = let high = h.literal.high in omega (arith, ints)

  pub negatable_above : IsFit first u → u.value <ℤ pos (2 ^ 62)
  negatable_above h = let high = h.literal.high in omega (arith, ints)

  pub negatable_below : IsFit first u → negsuc (2 ^ 62 - 1) <ℤ u.value
  negatable_below h = let low = h.literal.low in omega (arith, ints)
