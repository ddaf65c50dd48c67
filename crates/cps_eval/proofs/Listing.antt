-- The values of expressions, those that are written out first and then plain references.
use Rattle.std.specs.Prelude.{Some, None, slice_get}
use Rattle.std.specs.List.{list_all}
use Rattle.std.proofs.Common.{◌≡◌, ℕ, zero, suc, ◌+◌, ◌<◌, ◌≤◌, ℤ, pos, true, List, [], ◌∷◌, ◌++◌, map, length, get_or, refl, sym, ap, ◌∙◌, arith}
use Rattle.std.proofs.lemmas.List.{map-append}
use Rattle.std.proofs.lemmas.List.Folds.{list_all-append}
use Rattle.cps_model.specs.declared.model.LinearExpr.{LinearExpr}
use Rattle.cps_model.specs.Values.{reference_value, expression_value, reference_expression}
use Rattle.cps_model.specs.Rules.{names}
use Rattle.cps_model.specs.Meaning.{values_of, reference_values}
use Rattle.cps_model.specs.Ready.{is_ready, are_named}
use Rattle.cps_model.proofs.Tests.{and_true}
use Rattle.cps_model.proofs.References.{reference_worth, references_ready}

pub both_ready : (a : List ℤ) (es : List LinearExpr) (rs : List ℤ) → list_all (is_ready a) (es ++ map reference_expression rs) ≡ true → (list_all (is_ready a) es ≡ true) × (are_named a rs ≡ true)
both_ready a es rs h =
    let both = and_true (list_all (is_ready a) es) (list_all (is_ready a) (map reference_expression rs)) (sym (list_all-append (is_ready a) es (map reference_expression rs)) ∙ h) in
    (both.0, references_ready a rs both.1)

references_worth : (a rs : List ℤ) → values_of a (map reference_expression rs) ≡ reference_values a rs
references_worth a [] = refl
references_worth a (r ∷ rs) =
    ap (λ (v : ℤ). v ∷ values_of a (map reference_expression rs)) (reference_worth a r) ∙ ap (λ (vs : List ℤ). reference_value a r ∷ vs) (references_worth a rs)

pub values_of-all : (a : List ℤ) (es : List LinearExpr) (rs : List ℤ) → values_of a (es ++ map reference_expression rs) ≡ values_of a es ++ reference_values a rs
values_of-all a es rs = map-append (expression_value a) es (map reference_expression rs) ∙ ap (λ (vs : List ℤ). values_of a es ++ vs) (references_worth a rs)

-- ---- the value at a place

pub named_at : (n : ℕ) (rs : List ℤ) (k : ℕ) → list_all (names n) rs ≡ true → k < length rs → names n (get_or rs k (pos 0)) ≡ true
named_at n [] k h l = absurd (omega arith)
named_at n (r ∷ rs) zero h l = (and_true (names n r) (list_all (names n) rs) h).0
named_at n (r ∷ rs) (suc k) h l = named_at n rs k (and_true (names n r) (list_all (names n) rs) h).1 (omega arith)

at_written : (a : List ℤ) (es : List LinearExpr) (others : List ℤ) (i : ℕ) (e : LinearExpr) → i < length es → e ≡ get_or es i e → slice_get (values_of a es ++ others) i ≡ Some (expression_value a e)
at_written a [] others i e l is = absurd (omega arith)
at_written a (x ∷ es) others zero e l is = ap (λ (y : LinearExpr). Some (expression_value a y)) (sym is)
at_written a (x ∷ es) others (suc i) e l is = at_written a es others i e (omega arith) is

at_reference : (a rs : List ℤ) (k : ℕ) → k < length rs → slice_get (reference_values a rs) k ≡ Some (reference_value a (get_or rs k (pos 0)))
at_reference a [] k l = absurd (omega arith)
at_reference a (r ∷ rs) zero l = refl
at_reference a (r ∷ rs) (suc k) l = at_reference a rs k (omega arith)

behind : (a : List ℤ) (es : List LinearExpr) (others : List ℤ) (i k : ℕ) → i ≡ length es + k → slice_get (values_of a es ++ others) i ≡ slice_get others k
behind a [] others i k is = let same : i ≡ k = omega arith in ap (λ (j : ℕ). slice_get others j) same
behind a (e ∷ es) others zero k is = absurd (omega arith)
behind a (e ∷ es) others (suc i) k is = behind a es others i k (omega arith)

past : (a rs : List ℤ) (k : ℕ) → length rs ≤ k → slice_get (reference_values a rs) k ≡ None
past a [] k l = refl
past a (r ∷ rs) zero l = absurd (omega arith)
past a (r ∷ rs) (suc k) l = past a rs k (omega arith)

pub value_written : (a : List ℤ) (es : List LinearExpr) (rs : List ℤ) (i : ℕ) (e : LinearExpr) → i < length es → e ≡ get_or es i e → slice_get (values_of a (es ++ map reference_expression rs)) i ≡ Some (expression_value a e)
value_written a es rs i e l is = ap (λ (vs : List ℤ). slice_get vs i) (values_of-all a es rs) ∙ at_written a es (reference_values a rs) i e l is

pub value_behind : (a : List ℤ) (es : List LinearExpr) (rs : List ℤ) (i k : ℕ) → i ≡ length es + k → k < length rs → slice_get (values_of a (es ++ map reference_expression rs)) i ≡ Some (reference_value a (get_or rs k (pos 0)))
value_behind a es rs i k is l = ap (λ (vs : List ℤ). slice_get vs i) (values_of-all a es rs) ∙ behind a es (reference_values a rs) i k is ∙ at_reference a rs k l

pub value_past : (a : List ℤ) (es : List LinearExpr) (rs : List ℤ) (i k : ℕ) → i ≡ length es + k → length rs ≤ k → slice_get (values_of a (es ++ map reference_expression rs)) i ≡ None
value_past a es rs i k is l = ap (λ (vs : List ℤ). slice_get vs i) (values_of-all a es rs) ∙ behind a es (reference_values a rs) i k is ∙ past a rs k l
