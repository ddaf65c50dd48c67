-- The test of a divisor says what its sentence says: where it passes, no value within the domains is 0.
use Rattle.std.specs.Prelude.{int_le, not, ◌&&◌, slice_get}
use Rattle.std.specs.List.{list_all}
use Rattle.std.specs.Ordering.{int_eq}
use Rattle.std.proofs.Common.{◌≡◌, ◌≢◌, ℕ, zero, suc, ◌<◌, ℤ, pos, negsuc, neg_ℤ, ◌+ℤ◌, ◌*ℤ◌, ◌≤ℤ◌, Bool, true, List, [], ◌∷◌, length, get_or, sym, ◌∙◌, ap, subst, arith}
use Rattle.std.proofs.Math.IntN.{*ℤ-zero, *ℤ-negsuc, neg_ℤ-neg_ℤ}
use Rattle.std.proofs.lemmas.Int.{ints}
use borrow.Author.Tests.{ltb-true}
use Rattle.cps_model.specs.declared.model.LinearExpr.{LinearExpr}
use Rattle.cps_model.specs.declared.model.Variable.{Variable}
use Rattle.cps_model.specs.Values.{variable_of, variable_value, reference_value, sum_of}
use Rattle.cps_model.specs.Within.{is_within}
use Rattle.cps_model.specs.Solutions.{are_within}
use Rattle.cps_model.specs.Rules.{names}
use Rattle.cps_model.specs.Ranges.{least_value, greatest_value}
use Rattle.cps_model.specs.KindRules.{domain_of, domain_at, HasMultiple, has_multiple, zero_multiple, is_never_zero}
use Rattle.cps_model.proofs.Tests.{and_true}
use Rattle.cps_model.proofs.Multiples.{test_from_multiple}

pub times_neg : (c v : ℤ) → c *ℤ neg_ℤ v ≡ neg_ℤ (c *ℤ v)
times_neg c (pos zero) = *ℤ-zero c ∙ ap neg_ℤ (sym (*ℤ-zero c))
times_neg c (pos (suc n)) = *ℤ-negsuc c n
times_neg c (negsuc n) = sym (neg_ℤ-neg_ℤ (c *ℤ pos (suc n))) ∙ ap neg_ℤ (sym (*ℤ-negsuc c n))

-- a value is in its variable's domain
value_inside : (vs : List Variable) (a : List ℤ) (i : ℕ) → are_within vs a ≡ true → i < length vs → is_within (domain_of (slice_get vs i)) (get_or a i (pos 0)) ≡ true
value_inside [] a i w l = absurd (omega arith)
value_inside (v ∷ vs) [] i w l = cc
value_inside (v ∷ vs) (x ∷ a) zero w l = (and_true (is_within v.domain x) (are_within vs a) w).0
value_inside (v ∷ vs) (x ∷ a) (suc i) w l = value_inside vs a i (and_true (is_within v.domain x) (are_within vs a) w).1 (omega arith)

-- a term that gives 0 with the offset is the multiple that the test looks for
zero_is_multiple : (vs : List Variable) (a : List ℤ) (r c offset : ℤ) → are_within vs a ≡ true → variable_of r < length vs → (c *ℤ reference_value a r) +ℤ offset ≡ pos 0 → HasMultiple (domain_at vs r) c (zero_multiple r offset)
zero_is_multiple vs a (pos i) c offset w l e = (variable_value a i, value_inside vs a i w l, omega (arith, ints))
zero_is_multiple vs a (negsuc i) c offset w l e =
    let turned = times_neg c (variable_value a i) in
    (variable_value a i, value_inside vs a i w l, omega (arith, ints))

-- a value between two ends that 0 is not between
not_between : (l h v : ℤ) → not (int_le l (pos 0) && int_le (pos 0) h) ≡ true → l ≤ℤ v → v ≤ℤ h → v ≢ pos 0
not_between l h v t low high z = grind (arith, ints)

not_offset : (offset v : ℤ) → not (int_eq offset (pos 0)) ≡ true → v ≡ pos 0 +ℤ offset → v ≢ pos 0
not_offset offset v t e z = grind (arith, ints)

failed : (b : Bool) → not b ≡ true → b ≢ true
failed b t e = let f : not true ≡ true = subst (λ (x : Bool). not x ≡ true) e t in cc

-- where the test of a divisor passes, its value is not 0
pub never_zero : (vs : List Variable) (a rs cs : List ℤ) (e : LinearExpr) (v : ℤ) → are_within vs a ≡ true → list_all (names (length vs)) rs ≡ true → is_never_zero vs rs cs e ≡ true → least_value vs e ≤ℤ v → v ≤ℤ greatest_value vs e → v ≡ sum_of a rs cs +ℤ e.offset → v ≢ pos 0
never_zero vs a [] cs e v w n t low high is = not_offset e.offset v t is
never_zero vs a (r ∷ []) (c ∷ []) e v w n t low high is =
    λ z. (let named : variable_of r < length vs = ltb-true _ _ (and_true (names (length vs) r) _ n).0 in
    let gone : (c *ℤ reference_value a r) +ℤ e.offset ≡ pos 0 = omega (arith, ints) in
    let found = test_from_multiple (domain_at vs r) c (zero_multiple r e.offset) (zero_is_multiple vs a r c e.offset w named gone) in
    failed (has_multiple (domain_at vs r) c (zero_multiple r e.offset)) t found)
never_zero vs a (r ∷ []) [] e v w n t low high is = not_between _ _ v t low high
never_zero vs a (r ∷ []) (c ∷ d ∷ cs) e v w n t low high is = not_between _ _ v t low high
never_zero vs a (r ∷ q ∷ rs) cs e v w n t low high is = not_between _ _ v t low high
