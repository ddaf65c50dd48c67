-- The numbers of sizes.
use Rattle.std.specs.Option.{option_map, unwrap_or}
use Rattle.std.proofs.Common.{◌≡◌, ℕ, ◌-◌, ◌^◌, ◌≤◌, min, Bool, true, false, ◌&&◌, nat_le, if◌then◌else◌, ℤ, Option, Some, None, is_some, refl, sym, ◌∙◌, arith}
use Rattle.cps_schema.specs.declared.number.Number.{Number}
use Rattle.cps_schema.specs.declared.number.Number.TheVariants.{Int64, Int32, Exact}
use Rattle.cps_schema.specs.Digits.{capped}
use Rattle.cps_schema.specs.Written.{signed_value}
use Rattle.cps_schema.specs.Numbers.{fits, fitted}
use Rattle.cps_schema.proofs.Decimals.{fits_signed}

fits_great : (type : Number) (negative : Bool) (size : ℕ) → 2 ^ 64 - 1 ≤ size → fits type (signed_value negative size) ≡ false
fits_great Int64 true n h = fits_signed Int64 true n ∙ grind (arith)
fits_great Int64 false n h = fits_signed Int64 false n ∙ grind (arith)
fits_great Int32 true n h = fits_signed Int32 true n ∙ grind (arith)
fits_great Int32 false n h = fits_signed Int32 false n ∙ grind (arith)
fits_great Exact true n h = fits_signed Exact true n ∙ grind (arith)
fits_great Exact false n h = fits_signed Exact false n ∙ grind (arith)

-- a size that was cut off is outside each type
pub fitted_capped : (type : Number) (negative : Bool) (size : Option ℕ) → fitted type negative (option_map capped size) ≡ fitted type negative size
fitted_capped type negative None = refl
fitted_capped type negative (Some n) = by_test (nat_le n (2 ^ 64 - 1)) refl where
  by_test : (b : Bool) → nat_le n (2 ^ 64 - 1) ≡ b → fitted type negative (Some (capped n)) ≡ fitted type negative (Some n)
  by_test true e =
      let same : min n (2 ^ 64 - 1) ≡ n = grind (arith) in
      rw same refl
  by_test false e =
      let same : min n (2 ^ 64 - 1) ≡ 2 ^ 64 - 1 = grind (arith) in
      let great : 2 ^ 64 - 1 ≤ n = grind (arith) in
      rw (same, fits_great type negative (2 ^ 64 - 1) (omega arith), fits_great type negative n great) refl

-- what is known of a number that a size and a sign make
pub record IsNumberOf (type : Number) (negative : Bool) (size : Option ℕ) (z : ℤ) : Type 0 where
  pub fit : (is_some size && fits type (signed_value negative (unwrap_or size 0))) ≡ true
  pub value : z ≡ signed_value negative (unwrap_or size 0)
  pub inside : fits type z ≡ true

pub fitted_some : (type : Number) (negative : Bool) (size : Option ℕ) (z : ℤ) → fitted type negative size ≡ Some z → IsNumberOf type negative size z
fitted_some type negative None z e = cc
fitted_some type negative (Some n) z e = by_fit (fits type (signed_value negative n)) refl e where
  by_fit : (b : Bool) → fits type (signed_value negative n) ≡ b → (if b then Some (signed_value negative n) else None) ≡ Some z →
      IsNumberOf type negative (Some n) z
  by_fit true f s =
      let is : signed_value negative n ≡ z = cc in
      record { fit = f; value = sym is; inside = rw (← is) f }
  by_fit false f s = cc

-- and where there is none
pub fitted_none : (type : Number) (negative : Bool) (size : Option ℕ) → fitted type negative size ≡ None →
    (is_some size && fits type (signed_value negative (unwrap_or size 0))) ≡ false
fitted_none type negative None e = refl
fitted_none type negative (Some n) e = by_fit (fits type (signed_value negative n)) refl e where
  by_fit : (b : Bool) → fits type (signed_value negative n) ≡ b → (if b then Some (signed_value negative n) else None) ≡ None →
      (true && fits type (signed_value negative n)) ≡ false
  by_fit true f s = cc
  by_fit false f s = f
