-- Products that are cut off past all values.
use Rattle.std.specs.Prelude.{◌≡◌, ◌⊎◌, ℤ, pos, negsuc, ◌*ℤ◌, ◌+◌, ◌^◌, List, All}
use Rattle.std.specs.Int.{int_min, int_max}
use Rattle.cps_model.specs.Arithmetic.{product}
use Rattle.cps_p_arith.specs.declared.ends.Ends.{Ends}
use Rattle.cps_p_arith.specs.declared.range.Range.{Range}
use Rattle.cps_p_arith.specs.Ranges.{IsBetween, IsBoth, IsOrdered, AreIn, AreAt, IsSmall}

-- a number, cut off where it is more than 2 ^ 63 + 1 away from 0
abbrev pub clamped : ℤ → ℤ
clamped p = int_max (negsuc (2 ^ 63)) (int_min p (pos (2 ^ 63 + 1)))

-- a number is the product of an end of one range and of one of another
pub record IsCorner (e : Ends) (r : Range) (z : ℤ) : Type 0 where
  pub x : ℤ
  pub y : ℤ
  pub of_factor : (x ≡ e.low) ⊎ (x ≡ e.high)
  pub of_range : (y ≡ r.low) ⊎ (y ≡ r.high)
  pub is : z ≡ x *ℤ y

-- a number is the product, cut off, of values between ends
pub record IsReachedBy (es : List Ends) (z : ℤ) : Type 0 where
  pub ns : List ℤ
  pub within : AreIn es ns
  pub is : z ≡ clamped (product ns)

-- the range of the product of such values
pub record IsProductRange (es : List Ends) (r : Range) : Type 0 where
  pub small : IsSmall r
  pub sound : (ns : List ℤ) → AreIn es ns → IsBetween r.low r.high (clamped (product ns))
  pub exact : (ns : List ℤ) → AreAt es ns → IsBoth r.low r.high (clamped (product ns))
  pub low : All IsOrdered es → IsReachedBy es r.low
  pub high : All IsOrdered es → IsReachedBy es r.high
