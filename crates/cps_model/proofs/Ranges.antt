-- Each value of an expression lies between its least and its greatest value by the domains.
use Rattle.std.specs.Prelude.{All, None, unsigned_abs}
use Rattle.std.specs.Int.{int_min, int_max}
use Rattle.std.proofs.Common.{◌≡◌, ℕ, zero, suc, ◌≤◌, List, [], ◌∷◌, get_or, arith, true, ◌⊎◌, inl, inr, ℤ, pos, negsuc, ◌*ℤ◌, ◌≤ℤ◌}
use Rattle.std.proofs.lemmas.Int.{ints}
use Rattle.std.proofs.lemmas.List.Elements.{All-head, All-tail}
use Rattle.cps_model.specs.declared.model.LinearExpr.{LinearExpr}
use Rattle.cps_model.specs.declared.model.Variable.{Variable}
use Rattle.cps_model.specs.Values.{reference_value, sum_of, expression_value}
use Rattle.cps_model.specs.Within.{is_within}
use Rattle.cps_model.specs.Solutions.{are_within}
use Rattle.cps_model.specs.Start.{lows, highs, least_sum}
use Rattle.cps_model.specs.Ranges.{greatest_sum, least_value, greatest_value, magnitude_of_value}
use Rattle.cps_model.specs.Validity.{variable_fault}
use Rattle.cps_model.proofs.Tests.{and_true}
use Rattle.cps_model.proofs.Products.{times_grows, times_shrinks}
use Rattle.cps_model.proofs.Inside.{between_of, shape_of, unsigned_abs-between}

-- a value lies between the ends of its variable's domain
record Spans (l v h : ℤ) : Type 0 where
  low : l ≤ℤ v
  high : v ≤ℤ h

spans_at : (vs : List Variable) (a : List ℤ) (i : ℕ) → All (λ v. variable_fault v ≡ None) vs → are_within vs a ≡ true → Spans (get_or (lows vs) i (pos 0)) (get_or a i (pos 0)) (get_or (highs vs) i (pos 0))
spans_at [] [] i f w = record { low = omega (arith, ints); high = omega (arith, ints) }
spans_at [] (x ∷ a) i f w = cc
spans_at (v ∷ vs) [] i f w = cc
spans_at (v ∷ vs) (x ∷ a) zero f w =
    let both = and_true (is_within v.domain x) (are_within vs a) w in
    let between = between_of v.domain x (shape_of v (All-head (λ u. variable_fault u ≡ None) v vs f)) both.0 in
    record { low = between.low; high = between.high }
spans_at (v ∷ vs) (x ∷ a) (suc i) f w =
    spans_at vs a i (All-tail (λ u. variable_fault u ≡ None) v vs f) (and_true (is_within v.domain x) (are_within vs a) w).1

-- between two numbers, in either order
LiesBetween : ℤ → ℤ → ℤ → Type 0
LiesBetween x v y = ((x ≤ℤ v) × (v ≤ℤ y)) ⊎ ((y ≤ℤ v) × (v ≤ℤ x))

reference_between : (vs : List Variable) (a : List ℤ) (r : ℤ) → All (λ v. variable_fault v ≡ None) vs → are_within vs a ≡ true → LiesBetween (reference_value (lows vs) r) (reference_value a r) (reference_value (highs vs) r)
unfolding LiesBetween
reference_between vs a (pos i) f w = let s = spans_at vs a i f w in inl (s.low, s.high)
reference_between vs a (negsuc i) f w =
    let s = spans_at vs a i f w in
    let low = s.low in
    let high = s.high in
    inr (omega (arith, ints), omega (arith, ints))

int_min-first : (x y : ℤ) → int_min x y ≤ℤ x
int_min-first x y = grind (arith, ints)

int_min-second : (x y : ℤ) → int_min x y ≤ℤ y
int_min-second x y = grind (arith, ints)

int_max-first : (x y : ℤ) → x ≤ℤ int_max x y
int_max-first x y = grind (arith, ints)

int_max-second : (x y : ℤ) → y ≤ℤ int_max x y
int_max-second x y = grind (arith, ints)

-- a term is at least the lesser of its values at the two ends
term_least : (c x v y : ℤ) → LiesBetween x v y → int_min (c *ℤ x) (c *ℤ y) ≤ℤ (c *ℤ v)
unfolding LiesBetween
term_least (pos c) x v y (inl s) = let up = times_grows (pos c) x v (omega (arith, ints)) s.0 in let first = int_min-first (pos c *ℤ x) (pos c *ℤ y) in omega (arith, ints)
term_least (negsuc c) x v y (inl s) = let down = times_shrinks (negsuc c) v y (omega (arith, ints)) s.1 in let second = int_min-second (negsuc c *ℤ x) (negsuc c *ℤ y) in omega (arith, ints)
term_least (pos c) x v y (inr s) = let up = times_grows (pos c) y v (omega (arith, ints)) s.0 in let second = int_min-second (pos c *ℤ x) (pos c *ℤ y) in omega (arith, ints)
term_least (negsuc c) x v y (inr s) = let down = times_shrinks (negsuc c) v x (omega (arith, ints)) s.1 in let first = int_min-first (negsuc c *ℤ x) (negsuc c *ℤ y) in omega (arith, ints)

pub least_sum-least : (vs : List Variable) (a rs cs : List ℤ) → All (λ v. variable_fault v ≡ None) vs → are_within vs a ≡ true → least_sum vs rs cs ≤ℤ sum_of a rs cs
least_sum-least vs a [] cs f w = omega (arith, ints)
least_sum-least vs a (r ∷ rs) [] f w = omega (arith, ints)
least_sum-least vs a (r ∷ rs) (c ∷ cs) f w =
    let term = term_least c (reference_value (lows vs) r) (reference_value a r) (reference_value (highs vs) r) (reference_between vs a r f w) in
    let rest = least_sum-least vs a rs cs f w in
    omega (arith, ints)

-- and at most the greater of them
term_greatest : (c x v y : ℤ) → LiesBetween x v y → (c *ℤ v) ≤ℤ int_max (c *ℤ x) (c *ℤ y)
unfolding LiesBetween
term_greatest (pos c) x v y (inl s) = let up = times_grows (pos c) v y (omega (arith, ints)) s.1 in let second = int_max-second (pos c *ℤ x) (pos c *ℤ y) in omega (arith, ints)
term_greatest (negsuc c) x v y (inl s) = let down = times_shrinks (negsuc c) x v (omega (arith, ints)) s.0 in let first = int_max-first (negsuc c *ℤ x) (negsuc c *ℤ y) in omega (arith, ints)
term_greatest (pos c) x v y (inr s) = let up = times_grows (pos c) v x (omega (arith, ints)) s.1 in let first = int_max-first (pos c *ℤ x) (pos c *ℤ y) in omega (arith, ints)
term_greatest (negsuc c) x v y (inr s) = let down = times_shrinks (negsuc c) y v (omega (arith, ints)) s.0 in let second = int_max-second (negsuc c *ℤ x) (negsuc c *ℤ y) in omega (arith, ints)

pub greatest_sum-greatest : (vs : List Variable) (a rs cs : List ℤ) → All (λ v. variable_fault v ≡ None) vs → are_within vs a ≡ true → sum_of a rs cs ≤ℤ greatest_sum vs rs cs
greatest_sum-greatest vs a [] cs f w = omega (arith, ints)
greatest_sum-greatest vs a (r ∷ rs) [] f w = omega (arith, ints)
greatest_sum-greatest vs a (r ∷ rs) (c ∷ cs) f w =
    let term = term_greatest c (reference_value (lows vs) r) (reference_value a r) (reference_value (highs vs) r) (reference_between vs a r f w) in
    let rest = greatest_sum-greatest vs a rs cs f w in
    omega (arith, ints)

pub value-least : (vs : List Variable) (a : List ℤ) (e : LinearExpr) → All (λ v. variable_fault v ≡ None) vs → are_within vs a ≡ true → least_value vs e ≤ℤ expression_value a e
value-least vs a e f w = let sum = least_sum-least vs a e.vars e.coeffs f w in omega (arith, ints)

pub value-greatest : (vs : List Variable) (a : List ℤ) (e : LinearExpr) → All (λ v. variable_fault v ≡ None) vs → are_within vs a ≡ true → expression_value a e ≤ℤ greatest_value vs e
value-greatest vs a e f w = let sum = greatest_sum-greatest vs a e.vars e.coeffs f w in omega (arith, ints)

pub value-magnitude : (vs : List Variable) (a : List ℤ) (e : LinearExpr) → All (λ v. variable_fault v ≡ None) vs → are_within vs a ≡ true → unsigned_abs (expression_value a e) ≤ magnitude_of_value vs e
value-magnitude vs a e f w = unsigned_abs-between _ _ _ (value-least vs a e f w) (value-greatest vs a e f w)
