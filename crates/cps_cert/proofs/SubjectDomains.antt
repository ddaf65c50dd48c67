-- The values of an extended assignment lie in the domains of the subjects, and later sums change none of them.
use Rattle.std.specs.Prelude.{All, None}
use Rattle.std.proofs.Common.{◌≡◌, ℕ, zero, suc, ◌+◌, ◌<◌, List, [], ◌∷◌, ◌++◌, length, get_or, map, true, refl, arith, ℤ, pos, ◌≤ℤ◌}
use Rattle.std.proofs.lemmas.Int.{ints}
use Rattle.std.proofs.lemmas.List.{get_or_append_left, length-append, length-map, map-append, append_assoc}
use Rattle.cps_model.specs.declared.model.LinearExpr.{LinearExpr}
use Rattle.cps_model.specs.declared.model.Variable.{Variable}
use Rattle.cps_model.specs.Values.{expression_value}
use Rattle.cps_model.specs.Within.{is_within}
use Rattle.cps_model.specs.Solutions.{are_within}
use Rattle.cps_model.specs.Validity.{variable_fault}
use Rattle.cps_model.proofs.Tests.{and_true}
use Rattle.cps_model.proofs.Ranges.{value-least, value-greatest}
use Rattle.cps_literal.specs.Truth.{value_at}
use Rattle.cps_log.specs.Subjects.{extended, variable_domain, sum_domain, subject_domains, subject_count}

within_ends : (l h x : ℤ) → l ≤ℤ x → x ≤ℤ h → is_within (l ∷ h ∷ []) x ≡ true
within_ends l h x p q = grind (arith, ints)

sums_within : (vs : List Variable) (a : List ℤ) (sums : List LinearExpr) (s : ℕ) → All (λ v. variable_fault v ≡ None) vs → are_within vs a ≡ true → s < length sums → is_within (get_or (map (sum_domain vs) sums) s []) (get_or (map (expression_value a) sums) s (pos 0)) ≡ true
sums_within vs a [] s f w l = absurd (omega arith)
sums_within vs a (e ∷ es) zero f w l = within_ends _ _ _ (value-least vs a e f w) (value-greatest vs a e f w)
sums_within vs a (e ∷ es) (suc s) f w l = sums_within vs a es s f w (omega arith)

subjects_within : (all : List Variable) (b : List ℤ) (sums : List LinearExpr) (vs : List Variable) (a : List ℤ) (s : ℕ) → All (λ v. variable_fault v ≡ None) all → are_within all b ≡ true → are_within vs a ≡ true → s < length vs + length sums → is_within (get_or (map variable_domain vs ++ map (sum_domain all) sums) s []) (get_or (a ++ map (expression_value b) sums) s (pos 0)) ≡ true
subjects_within all b sums [] [] s f w here l = sums_within all b sums s f w (omega arith)
subjects_within all b sums [] (x ∷ a) s f w here l = cc
subjects_within all b sums (v ∷ vs) [] s f w here l = cc
subjects_within all b sums (v ∷ vs) (x ∷ a) zero f w here l = (and_true (is_within v.domain x) (are_within vs a) here).0
subjects_within all b sums (v ∷ vs) (x ∷ a) (suc s) f w here l = subjects_within all b sums vs a s f w (and_true (is_within v.domain x) (are_within vs a) here).1 (omega arith)

-- each subject's value lies in its domain
pub extended_within : (vs : List Variable) (sums : List LinearExpr) (a : List ℤ) (s : ℕ) → All (λ v. variable_fault v ≡ None) vs → are_within vs a ≡ true → s < subject_count vs sums → is_within (get_or (subject_domains vs sums) s []) (value_at (extended sums a) s) ≡ true
extended_within vs sums a s f w l = subjects_within vs a sums vs a s f w w l

-- a variable's value is the assignment's
pub variable_at : (sums : List LinearExpr) (a : List ℤ) (i : ℕ) → i < length a → value_at (extended sums a) i ≡ value_at a i
variable_at sums a i l = get_or_append_left a (map (expression_value a) sums) (pos 0) i l

-- an earlier subject keeps its value when a sum is added
pub value_kept : (sums : List LinearExpr) (e : LinearExpr) (a : List ℤ) (i : ℕ) → i < length a + length sums → value_at (extended (sums ++ e ∷ []) a) i ≡ value_at (extended sums a) i
value_kept sums e a i l =
    let split : extended (sums ++ e ∷ []) a ≡ extended sums a ++ expression_value a e ∷ [] = rw (map-append, ← append_assoc) refl in
    let below : i < length (extended sums a) = simp (length-append, length-map) (omega arith) in
    rw split (get_or_append_left (extended sums a) (expression_value a e ∷ []) (pos 0) i below)

-- a sum's subject has the sum's value
pub sum_value_at : (a : List ℤ) (sums : List LinearExpr) (k : ℕ) (d : LinearExpr) → k < length sums → get_or (map (expression_value a) sums) k (pos 0) ≡ expression_value a (get_or sums k d)
sum_value_at a [] k d l = absurd (omega arith)
sum_value_at a (e ∷ es) zero d l = refl
sum_value_at a (e ∷ es) (suc k) d l = sum_value_at a es k d (omega arith)
