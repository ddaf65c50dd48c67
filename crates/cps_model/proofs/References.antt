-- What holds of references holds of the expressions that they are.
use Rattle.std.specs.Prelude.{◌&&◌, ◌*ℤ◌, ◌+ℤ◌, sum_by}
use Rattle.std.specs.List.{list_all}
use Rattle.std.proofs.Common.{◌≡◌, ℕ, ◌+◌, ℤ, unsigned_abs, Bool, true, false, List, [], ◌∷◌, ◌++◌, map, length, refl, ap, ◌∙◌, arith}
use Rattle.std.proofs.lemmas.Int.{ints}
use Rattle.std.proofs.lemmas.List.Folds.{list_all-append}
use Rattle.std.proofs.lemmas.List.Sums.{sum_by-cons, sum_by-append}
use Rattle.cps_model.specs.declared.model.LinearExpr.{LinearExpr}
use Rattle.cps_model.specs.declared.model.Variable.{Variable}
use Rattle.cps_model.specs.Values.{reference_value, expression_value, reference_expression}
use Rattle.cps_model.specs.Reach.{weight_of}
use Rattle.cps_model.specs.Rules.{is_small, names, names_variables, is_paired, expression_entries}
use Rattle.cps_model.specs.Ready.{is_ready, are_named}
use Rattle.cps_model.proofs.Tests.{and_true, both_true}

and_last : (b : Bool) → (b && true) ≡ b
and_last true = refl
and_last false = refl

pub references_named : (vs : List Variable) (rs : List ℤ) → list_all (names_variables vs) (map reference_expression rs) ≡ list_all (names (length vs)) rs
references_named vs [] = refl
references_named vs (r ∷ rs) =
    ap (λ (b : Bool). b && list_all (names_variables vs) (map reference_expression rs)) (and_last (names (length vs) r)) ∙ ap (λ (b : Bool). names (length vs) r && b) (references_named vs rs)

pub references_paired : (rs : List ℤ) → list_all is_paired (map reference_expression rs) ≡ true
references_paired [] = refl
references_paired (r ∷ rs) = references_paired rs

pub references_entries : (rs : List ℤ) → sum_by expression_entries (map reference_expression rs) ≡ length rs + length rs
references_entries [] = refl
references_entries (r ∷ rs) = let rest = references_entries rs in omega (arith, sum_by-cons expression_entries (reference_expression r) (map reference_expression rs))

-- a reference is worth what its expression is
pub reference_worth : (a : List ℤ) (r : ℤ) → expression_value a (reference_expression r) ≡ reference_value a r
reference_worth a r = omega (arith, ints)

pub references_ready : (a : List ℤ) (rs : List ℤ) → list_all (is_ready a) (map reference_expression rs) ≡ true → are_named a rs ≡ true
references_ready a [] h = refl
references_ready a (r ∷ rs) h =
    let e = reference_expression r in
    let both = and_true (is_ready a e) (list_all (is_ready a) (map reference_expression rs)) h in
    let parts = and_true (list_all (names (length a)) e.vars && is_paired e) (is_small (weight_of a e.vars e.coeffs + unsigned_abs e.offset)) both.0 in
    let named = and_true (list_all (names (length a)) e.vars) (is_paired e) parts.0 in
    both_true (names (length a) r) (are_named a rs) (and_true (names (length a) r) true named.0).0 (references_ready a rs both.1)

-- ---- the same of expressions that are written out, and references behind them

pub all_named : (vs : List Variable) (es : List LinearExpr) (rs : List ℤ) → list_all (names_variables vs) (es ++ map reference_expression rs) ≡ (list_all (names_variables vs) es && list_all (names (length vs)) rs)
all_named vs es rs = list_all-append (names_variables vs) es (map reference_expression rs) ∙ ap (λ (b : Bool). list_all (names_variables vs) es && b) (references_named vs rs)

pub all_paired : (es : List LinearExpr) (rs : List ℤ) → list_all is_paired (es ++ map reference_expression rs) ≡ list_all is_paired es
all_paired es rs = list_all-append is_paired es (map reference_expression rs) ∙ ap (λ (b : Bool). list_all is_paired es && b) (references_paired rs) ∙ and_last (list_all is_paired es)

pub all_entries : (es : List LinearExpr) (rs : List ℤ) → sum_by expression_entries (es ++ map reference_expression rs) ≡ sum_by expression_entries es + (length rs + length rs)
all_entries es rs = sum_by-append expression_entries es (map reference_expression rs) ∙ ap (λ (n : ℕ). sum_by expression_entries es + n) (references_entries rs)
