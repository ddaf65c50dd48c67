-- Laws of a valid model at an assignment within its domains.
use Rattle.std.specs.Prelude.{All, Option, Some, None, map, max, not, unsigned_abs, slice_get, int_le, ◌==◌, ◌&&◌}
use Rattle.std.specs.List.{list_all}
use Rattle.std.proofs.Common.{◌≡◌, ℕ, zero, suc, ◌<◌, ◌≤◌, ◌^◌, Bool, true, false, ℤ, pos, negsuc, ◌+ℤ◌, ◌*ℤ◌, ◌≤ℤ◌, List, [], ◌∷◌, length, take, get_or, refl, arith}
use Rattle.std.proofs.Math.Nat.{mul-le-mul}
use Rattle.std.proofs.lemmas.Int.{ints, unsigned_abs-mul}
use Rattle.std.proofs.lemmas.List.Elements.{All-nil, All-cons, All-head, All-tail, All-map, All-contains, All-weaker}
use Rattle.std.proofs.lemmas.List.Sums.{AllPass-from_list_all}
use borrow.Author.Tests.{ltb-true}
use Rattle.cps_model.specs.declared.model.CpModel.{CpModel}
use Rattle.cps_model.specs.declared.model.LinearExpr.{LinearExpr}
use Rattle.cps_model.specs.declared.model.Variable.{Variable}
use Rattle.cps_model.specs.declared.constraint.Constraint.{Constraint}
use Rattle.cps_model.specs.declared.constraint.Kind.{Kind}
use Rattle.cps_model.specs.declared.constraint.Kind.TheVariants.{IntDiv, IntMod, IntProd, Interval, Cumulative}
use Rattle.cps_model.specs.Values.{variable_of, expression_value}
use Rattle.cps_model.specs.Within.{is_within, begins_after, is_well_shaped}
use Rattle.cps_model.specs.Meaning.{values_of}
use Rattle.cps_model.specs.Arithmetic.{product}
use Rattle.cps_model.specs.Scheduling.{constraint_at}
use Rattle.cps_model.specs.Solutions.{are_within}
use Rattle.cps_model.specs.Ranges.{least_value, magnitude_of_value}
use Rattle.cps_model.specs.Rules.{is_small, names, intervals_of}
use Rattle.cps_model.specs.KindRules.{domain_of, domain_at, has_multiple, zero_multiple, is_never_zero, product_reach, is_never_negative, is_interval, is_some_interval, names_interval}
use Rattle.cps_model.specs.Validity.{variable_fault, constraint_fault, IsValid}
use Rattle.cps_model.proofs.Tests.{and_true}
use Rattle.cps_model.proofs.Faults.{KeepsOwnRules, own_rules, intervals_named, parts_of, rule_kept}
use Rattle.cps_model.proofs.Multiples.{multiple_from_test}
use Rattle.cps_model.proofs.Divisors.{never_zero, times_neg}
use Rattle.cps_model.proofs.Ranges.{value-least, value-greatest, value-magnitude}
use Rattle.cps_validate.specs.Signs.{with_sign_of}
use Rattle.cps_validate.specs.Laws.{HasKind, IsBetweenLeastAndGreatest, DividesByNoZero, RefusesOnlyZero, HasPositiveModuli, HasSmallProducts, HasNoNegativeDemand, IsIntervalAt, NamesIntervals}
use Rattle.cps_validate.proofs.Factors.{product_reach-some}

-- a kind of a valid model keeps the rules
kept : (m : CpModel) (kind : Kind) → IsValid m → HasKind m kind → KeepsOwnRules m.variables m.constraints kind
kept m kind valid has =
    let P : Kind → Type 0 = λ k. KeepsOwnRules m.variables m.constraints k in
    let each = All-weaker (λ (c : Constraint). constraint_fault m.variables m.constraints c ≡ None) (λ (c : Constraint). P c.kind) (λ c. own_rules m.variables m.constraints c) m.constraints (parts_of m valid).constraints in
    All-contains P (map (λ (c : Constraint). c.kind) m.constraints) kind (All-map P (λ (c : Constraint). c.kind) m.constraints each) has

pub between : (m : CpModel) → IsValid m → IsBetweenLeastAndGreatest m
between m valid a e w =
    let f = (parts_of m valid).variables in
    (value-least m.variables a e f w, value-greatest m.variables a e f w)

pub divisors : (m : CpModel) → IsValid m → DividesByNoZero m
divisors m valid a target n d w has =
    let own = kept m (IntDiv target (n ∷ d ∷ [])) valid has in
    let f = (parts_of m valid).variables in
    let first = and_true (list_all (names (length m.variables)) target.vars) _ own.named in
    let second = and_true (list_all (names (length m.variables)) n.vars) _ first.1 in
    let named = (and_true (list_all (names (length m.variables)) d.vars) true second.1).0 in
    let divided = rule_kept 8 (is_never_zero m.variables d.vars d.coeffs d) _ own.own in
    never_zero m.variables a d.vars d.coeffs d (expression_value a d) w named divided.0 (value-least m.variables a d f w) (value-greatest m.variables a d f w) refl

int_le_is : (x y : ℤ) → int_le x y ≡ true → x ≤ℤ y
int_le_is x y t = grind (arith, ints)

at_least : (n x y : ℤ) → int_le n x ≡ true → x ≤ℤ y → n ≤ℤ y
at_least n x y t up = let low = int_le_is n x t in omega (arith, ints)

pub moduli : (m : CpModel) → IsValid m → HasPositiveModuli m
moduli m valid a target n d w has =
    let modulus = rule_kept 9 (int_le (pos 1) (least_value m.variables d)) _ (kept m (IntMod target (n ∷ d ∷ [])) valid has).own in
    at_least (pos 1) (least_value m.variables d) (expression_value a d) modulus.0 (value-least m.variables a d (parts_of m valid).variables w)

never_negative : (vs : List Variable) (a : List ℤ) (es : List LinearExpr) → All (λ v. variable_fault v ≡ None) vs → are_within vs a ≡ true → list_all (is_never_negative vs) es ≡ true → All (λ e. pos 0 ≤ℤ expression_value a e) es
never_negative vs a [] f w t = All-nil (λ e. pos 0 ≤ℤ expression_value a e)
never_negative vs a (e ∷ es) f w t =
    let both = and_true (is_never_negative vs e) (list_all (is_never_negative vs) es) t in
    All-cons (λ u. pos 0 ≤ℤ expression_value a u) e es (at_least (pos 0) (least_value vs e) (expression_value a e) both.0 (value-least vs a e f w)) (never_negative vs a es f w both.1)

pub demands : (m : CpModel) → IsValid m → HasNoNegativeDemand m
demands m valid a capacity intervals ds w has =
    let demanded = rule_kept 11 (list_all (is_never_negative m.variables) ds) _ (kept m (Cumulative capacity intervals ds) valid has).own in
    never_negative m.variables a ds (parts_of m valid).variables w demanded.0

-- a product of values, and of the first of them, is at most the product of the factors' magnitudes
product-reach : (vs : List Variable) (a : List ℤ) (es : List LinearExpr) (k : ℕ) → All (λ v. variable_fault v ≡ None) vs → are_within vs a ≡ true → unsigned_abs (product (values_of a (take k es))) ≤ product_reach vs es
product-reach vs a [] zero f w = omega arith
product-reach vs a [] (suc k) f w = omega arith
product-reach vs a (e ∷ es) zero f w = product_reach-some vs (e ∷ es)
product-reach vs a (e ∷ es) (suc k) f w =
    let size = value-magnitude vs a e f w in
    let near : unsigned_abs (expression_value a e) ≤ max 1 (magnitude_of_value vs e) = omega arith in
    let rest = product-reach vs a es k f w in
    let more = mul-le-mul near rest in
    let whole = unsigned_abs-mul (expression_value a e) (product (values_of a (take k es))) in
    omega arith

pub products : (m : CpModel) → IsValid m → HasSmallProducts m
products m valid a target factors k w has =
    let small = rule_kept 10 (is_small (product_reach m.variables factors)) _ (kept m (IntProd target factors) valid has).own in
    let below : product_reach m.variables factors < 2 ^ 62 = ltb-true _ _ small.0 in
    let less = product-reach m.variables a factors k (parts_of m valid).variables w in
    omega arith

-- a kind that passes the test is an interval
interval_of : (cs : List Constraint) (i : ℤ) (c : Constraint) (kind : Kind) → constraint_at cs i ≡ Some c → c.kind ≡ kind → is_interval kind ≡ true → IsIntervalAt cs i
interval_of cs i c (Interval start end size) l e t = record { constraint = c; listed = l; start = start; end = end; size = size; interval = e }
interval_of cs i c kind l e t = cc

named_interval : (cs : List Constraint) (i : ℤ) (o : Option Constraint) → constraint_at cs i ≡ o → is_some_interval o ≡ true → IsIntervalAt cs i
named_interval cs i None l t = cc
named_interval cs i (Some c) l t = interval_of cs i c c.kind l refl t

pub indices : (m : CpModel) → IsValid m → NamesIntervals m
indices m valid kind has =
    All-weaker (λ i. names_interval m.constraints i ≡ true) (IsIntervalAt m.constraints) (λ i t. named_interval m.constraints i (constraint_at m.constraints i) refl t) (intervals_of kind) (AllPass-from_list_all (names_interval m.constraints) (intervals_of kind) (intervals_named m.variables m.constraints kind (kept m kind valid has).own))

-- the least value of a domain that is well shaped and not empty is in it
int_le_same : (x : ℤ) → int_le x x ≡ true
int_le_same x = grind (arith, ints)

least_inside : (bs : List ℤ) → is_well_shaped bs ≡ true → not (length bs == 0) ≡ true → is_within bs (get_or bs 0 (pos 0)) ≡ true
least_inside [] s t = cc
least_inside (x ∷ []) s t = cc
least_inside (x ∷ y ∷ bs) s t =
    let order = (and_true (int_le x y) (begins_after y bs) (and_true (int_le x y && begins_after y bs) (is_well_shaped bs) s).0).0 in
    rw (int_le_same x, order) refl

domain_has_some : (vs : List Variable) (i : ℕ) → All (λ v. variable_fault v ≡ None) vs → i < length vs → is_within (domain_of (slice_get vs i)) (get_or (domain_of (slice_get vs i)) 0 (pos 0)) ≡ true
domain_has_some [] i f l = absurd (omega arith)
domain_has_some (v ∷ vs) zero f l =
    let first = rule_kept 1 (is_well_shaped v.domain && not (length v.domain == 0)) _ (All-head (λ u. variable_fault u ≡ None) v vs f) in
    let both = and_true (is_well_shaped v.domain) (not (length v.domain == 0)) first.0 in
    least_inside v.domain both.0 both.1
domain_has_some (v ∷ vs) (suc i) f l = domain_has_some vs i (All-tail (λ u. variable_fault u ≡ None) v vs f) (omega arith)

passed : (b : Bool) → not b ≡ false → b ≡ true
passed true e = refl
passed false e = cc

-- the multiple that the test finds makes the sum 0
multiple_is_zero : (r c offset v : ℤ) → c *ℤ v ≡ zero_multiple r offset → (c *ℤ with_sign_of r v) +ℤ offset ≡ pos 0
multiple_is_zero (pos i) c offset v e = omega (arith, ints)
multiple_is_zero (negsuc i) c offset v e = let turned = times_neg c v in omega (arith, ints)

pub refused : (m : CpModel) → IsValid m → RefusesOnlyZero m
refused m valid r c offset named failed =
    let domain = domain_at m.variables r in
    let some = domain_has_some m.variables (variable_of r) (parts_of m valid).variables (ltb-true _ _ named) in
    let found = multiple_from_test domain c (zero_multiple r offset) (get_or domain 0 (pos 0)) some (passed (has_multiple domain c (zero_multiple r offset)) failed) in
    (found.0, found.1, multiple_is_zero r c offset found.0 found.2)
