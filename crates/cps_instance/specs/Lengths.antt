-- How far an interval's end is from its start.
use Rattle.std.specs.Prelude.{if◌then◌else◌, ◌&&◌, ◌==◌, ◌+ℤ◌, ◌-ℤ◌, neg_ℤ, ℕ, ℤ, pos, negsuc, Bool, List, [], ◌∷◌, Option, Some, None}
use Rattle.std.specs.List.{list_all}
use Rattle.std.specs.Ordering.{int_eq}
use Rattle.cps_model.specs.declared.model.LinearExpr.{LinearExpr}
use Rattle.cps_model.specs.Values.{variable_of}

-- the coefficient that a reference's own gives its variable
abbrev pub signed_coefficient : ℤ → ℤ → ℤ
signed_coefficient (pos i) c = c
signed_coefficient (negsuc i) c = neg_ℤ c

-- a variable's coefficient in a sum, like terms merged
abbrev pub coefficient_of : ℕ → List ℤ → List ℤ → ℤ
coefficient_of v [] cs = pos 0
coefficient_of v (r ∷ rs) [] = pos 0
coefficient_of v (r ∷ rs) (c ∷ cs) =
    (if variable_of r == v then signed_coefficient r c else pos 0) +ℤ coefficient_of v rs cs

-- whether a variable has the same coefficient in both expressions
abbrev pub has_same_coefficient : LinearExpr → LinearExpr → ℕ → Bool
has_same_coefficient start end v = int_eq (coefficient_of v start.vars start.coeffs)
    (coefficient_of v end.vars end.coeffs)

abbrev pub have_same_coefficients : LinearExpr → LinearExpr → List ℤ → Bool
have_same_coefficients start end references = list_all (λ r. has_same_coefficient start end (variable_of r)) references

-- where both have the same terms, like ones merged, the one offset less the other
abbrev pub length_between : LinearExpr → LinearExpr → Option ℤ
length_between start end =
    if have_same_coefficients start end start.vars && have_same_coefficients start end end.vars then Some
    (end.offset -ℤ start.offset) else None
