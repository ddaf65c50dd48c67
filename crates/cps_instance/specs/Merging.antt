-- A table of merged coefficients.
use Rattle.std.specs.Prelude.{◌≡◌, ℕ, ℤ, pos, nat_eq, unwrap_or}
use Rattle.std.specs.HashMap.{HashMap, get}
use Rattle.cps_model.specs.declared.model.LinearExpr.{LinearExpr}
use Rattle.cps_instance.specs.Lengths.{coefficient_of}

-- the coefficient of a variable, 0 where the table has none
abbrev pub merged_coefficient : {S : Type 0} → HashMap ℕ ℤ S → ℕ → ℤ
merged_coefficient merged v = unwrap_or (get nat_eq merged v) (pos 0)

-- the table has the coefficient of each variable in an expression
abbrev pub HasCoefficientsOf : {S : Type 0} → HashMap ℕ ℤ S → LinearExpr → Type 0
HasCoefficientsOf merged e = (v : ℕ) → merged_coefficient merged v ≡ coefficient_of v e.vars e.coeffs
