-- A sum over variables as an expression: a log may define it, and it has the sum's values and ends.
use Rattle.std.specs.Prelude.{All, nat_lt, ◌-◌, ◌*◌, ◌==◌, max, unsigned_abs, if◌then◌else◌, None, map, ◌&&◌, ◌||◌, not, int_le}
use Rattle.std.specs.List.{list_all}
use Rattle.std.specs.Int.{int_min, int_max}
use Rattle.std.proofs.Common.{◌≡◌, ◌∙◌, ℕ, zero, suc, ◌+◌, ◌<◌, ◌≤◌, ◌^◌, ℤ, pos, ◌+ℤ◌, ◌*ℤ◌, ◌≤ℤ◌, Bool, true, false, List, [], ◌∷◌, ◌++◌, length, take, get_or, refl, ap, sym, subst, arith, lt-ltb}
use Rattle.std.proofs.Math.IntN.{*ℤ-zero}
use Rattle.std.proofs.Math.Nat.{mul-le-mul_left}
use Rattle.std.proofs.lemmas.Int.{ints}
use Rattle.std.proofs.lemmas.List.{length-map, get_or-map, take_more, take_all, append-nil, map-append}
use Rattle.std.proofs.lemmas.List.Elements.{All-nil, All-cons, All-head, All-tail, All-push, All-get_or}
use Rattle.cps_model.specs.declared.model.LinearExpr.{LinearExpr}
use Rattle.cps_model.specs.declared.model.Variable.{Variable}
use Rattle.cps_model.specs.Reach.{low_of, high_of, magnitude_of, reach_of}
use Rattle.cps_model.specs.Start.{lows, highs, least_sum}
use Rattle.cps_model.specs.Ranges.{greatest_sum}
use Rattle.cps_model.specs.Rules.{names}
use Rattle.cps_model.specs.Values.{sum_of}
use Rattle.cps_model.specs.Within.{is_within, is_well_shaped, begins_after}
use Rattle.cps_model.specs.Validity.{variable_fault}
use Rattle.cps_model.proofs.Faults.{parts_of, rule_kept}
use Rattle.cps_model.proofs.Inside.{between_of, shape_of}
use Rattle.cps_model.proofs.Tests.{and_true}
use Rattle.cps_domain.specs.Window.{Window, intervals, is_among, equals}
use Rattle.cps_literal.specs.Truth.{value_at}
use Rattle.cps_instance.specs.declared.term.Term.{Term}
use Rattle.cps_instance.specs.declared.task.Body.{Body}
use Rattle.cps_instance.specs.declared.task.Body.TheVariants.{Sum}
use Rattle.cps_instance.specs.Terms.{Intervals, Domains, AreIntervals, domain_at, least_of, greatest_of, magnitude, terms_value, terms_reach, least_of_terms, greatest_of_terms}
use Rattle.cps_instance.specs.Sums.{DefinedSum}
use Rattle.cps_instance.specs.Problem.{Problem, IsInstance, variable_count, bounds_at}
use Rattle.cps_instance.proofs.Intervals.{least_among, greatest_among, least_of-least, greatest_of-greatest}
use Rattle.cps_log.specs.Subjects.{IsNear}
use Rattle.cps_search.specs.LogItems.{AreVariableValues, IsExpressionOf, is_zero, kept_terms, expression_of, HasExpression}

-- ---- the ends of a variable's domain

within_itself : (x y : ℤ) (b : Bool) → int_le x y ≡ true → ((int_le x x && int_le x y) || b) ≡ true
within_itself x y b h = grind (arith, ints)

within_end : (x y : ℤ) (b : Bool) → int_le x y ≡ true → ((int_le x y && int_le y y) || b) ≡ true
within_end x y b h = grind (arith, ints)

or_right : (p q : Bool) → q ≡ true → (p || q) ≡ true
or_right true q h = refl
or_right false q h = h

low_within : (bs : List ℤ) → is_well_shaped bs ≡ true → 0 < length bs → is_within bs (get_or bs 0 (pos 0)) ≡ true
low_within [] h l = absurd (omega arith)
low_within (x ∷ []) h l = cc
low_within (x ∷ (y ∷ bs)) h l =
    let outer = and_true (int_le x y && begins_after y bs) (is_well_shaped bs) h in
    within_itself x y (is_within bs x) (and_true (int_le x y) (begins_after y bs) outer.0).0

high_within : (bs : List ℤ) (i : ℕ) → is_well_shaped bs ≡ true → i + 1 ≡ length bs → is_within bs (get_or bs i (pos 0)) ≡ true
high_within [] i h l = absurd (omega arith)
high_within (x ∷ []) i h l = cc
high_within (x ∷ (y ∷ bs)) zero h l = absurd (omega arith)
high_within (x ∷ (y ∷ bs)) (suc zero) h l =
    let outer = and_true (int_le x y && begins_after y bs) (is_well_shaped bs) h in
    within_end x y (is_within bs y) (and_true (int_le x y) (begins_after y bs) outer.0).0
high_within (x ∷ (y ∷ bs)) (suc (suc i)) h l =
    let outer = and_true (int_le x y && begins_after y bs) (is_well_shaped bs) h in
    or_right _ _ (high_within bs i outer.1 (omega arith))

some_bounds : (bs : List ℤ) → not (length bs == 0) ≡ true → 0 < length bs
some_bounds [] h = cc
some_bounds (x ∷ bs) h = omega arith

same_end : (a b : ℤ) → a ≤ℤ b → b ≤ℤ a → a ≡ b
same_end a b p q = omega (arith, ints)

-- a domain with a variable's values has its ends
record HasEnds (d : Intervals) (low high : ℤ) (size : ℕ) : Type 0 where
  least : least_of d ≡ low
  greatest : greatest_of d ≡ high
  reach : magnitude d ≡ size

ends_of : (v : Variable) (d : Intervals) → variable_fault v ≡ None → AreIntervals d → ((x : ℤ) → is_among d x ≡ is_within v.domain x) → HasEnds d (low_of v) (high_of v) (magnitude_of v)
ends_of v d f sound same =
    let both = and_true (is_well_shaped v.domain) (not (length v.domain == 0)) (rule_kept 1 _ _ f).0 in
    let some = some_bounds v.domain both.1 in
    let shape = shape_of v f in
    let least_in = between_of v.domain (least_of d) shape (sym (same (least_of d)) ∙ least_among d sound) in
    let greatest_in = between_of v.domain (greatest_of d) shape (sym (same (greatest_of d)) ∙ greatest_among d sound) in
    let low : is_among d (low_of v) ≡ true = same (low_of v) ∙ low_within v.domain both.0 some in
    let high : is_among d (high_of v) ≡ true = same (high_of v) ∙ high_within v.domain (length v.domain - 1) both.0 (omega arith) in
    let least : least_of d ≡ low_of v = same_end (least_of d) (low_of v) (least_of-least d (low_of v) sound low) least_in.low in
    let greatest : greatest_of d ≡ high_of v = same_end (greatest_of d) (high_of v) greatest_in.high (greatest_of-greatest d (high_of v) sound high) in
    record {
      least = least;
      greatest = greatest;
      reach = ap (λ (z : ℤ). max (unsigned_abs z) (unsigned_abs (greatest_of d))) least ∙ ap (λ (z : ℤ). max (unsigned_abs (low_of v)) (unsigned_abs z)) greatest;
    }

ends_at : (vs : List Variable) (d : ℕ → Intervals) → All (λ v. variable_fault v ≡ None) vs → ((i : ℕ) → i < length vs → AreIntervals (d i)) → ((i : ℕ) (x : ℤ) → i < length vs → is_among (d i) x ≡ is_within (bounds_at vs i) x)
    → (i : ℕ) → i < length vs → HasEnds (d i) (get_or (lows vs) i (pos 0)) (get_or (highs vs) i (pos 0)) (get_or (map magnitude_of vs) i 0)
ends_at [] d f sound same i l = absurd (omega arith)
ends_at (v ∷ vs) d f sound same zero l = ends_of v (d 0) (All-head (λ u. variable_fault u ≡ None) v vs f) (sound 0 l) (λ x. same 0 x l)
ends_at (v ∷ vs) d f sound same (suc i) l =
    ends_at vs (λ j. d (suc j)) (All-tail (λ u. variable_fault u ≡ None) v vs f) (λ j k. sound (suc j) (omega arith)) (λ j x k. same (suc j) x (omega arith)) i (omega arith)

-- ---- term by term

zero_ends : (ps : Intervals) → is_zero ps ≡ true → (least_of ps ≡ pos 0) × (greatest_of ps ≡ pos 0)
zero_ends ps h =
    let both = and_true (equals (least_of ps) (pos 0)) (equals (greatest_of ps) (pos 0)) h in
    (is_same (least_of ps) (pos 0) both.0, is_same (greatest_of ps) (pos 0) both.1) where
      is_same : (a b : ℤ) → equals a b ≡ true → a ≡ b
      is_same a b h = grind (arith, ints)

not_zero : (l g : ℤ) → (equals l (pos 0) && equals g (pos 0)) ≡ false → 1 ≤ max (unsigned_abs l) (unsigned_abs g)
not_zero l g h = grind (arith, ints)

either_same : (b : Bool) (x : ℤ) → (if b then x else x) ≡ x
either_same true x = refl
either_same false x = refl

no_more : (c l g : ℤ) → l ≡ pos 0 → g ≡ pos 0 → int_min (c *ℤ l) (c *ℤ g) ≡ pos 0
no_more c l g e f = rw (e, f) (either_same _ (c *ℤ pos 0) ∙ *ℤ-zero c)

no_greater : (c l g : ℤ) → l ≡ pos 0 → g ≡ pos 0 → int_max (c *ℤ l) (c *ℤ g) ≡ pos 0
no_greater c l g e f = rw (e, f) (either_same _ (c *ℤ pos 0) ∙ *ℤ-zero c)

no_value : (c v : ℤ) → v ≡ pos 0 → (c *ℤ v) ≡ pos 0
no_value c v e = rw e (*ℤ-zero c)

plus_none : (a b c : ℤ) → a ≡ c → b ≡ pos 0 → a ≡ b +ℤ c
plus_none a b c e f = omega (arith, ints)

plus_same : (a b c d : ℤ) → a ≡ b → c ≡ d → a +ℤ c ≡ b +ℤ d
plus_same a b c d e f = cc

near_factor : (c m : ℕ) → c * m < 2 ^ 62 → 1 ≤ m → c ≤ 2 ^ 62
near_factor c m h l = let k = mul-le-mul_left c l in omega arith

module _ (vs : List Variable) (ds : Domains) (ends : (i : ℕ) → i < length vs → HasEnds (domain_at ds i) (get_or (lows vs) i (pos 0)) (get_or (highs vs) i (pos 0)) (get_or (map magnitude_of vs) i 0)) where
  abbrev variables_in : List Term → List ℤ
  variables_in ts = map (λ t. pos t.subject) ts

  abbrev coefficients_in : List Term → List ℤ
  coefficients_in ts = map (λ t. t.coeff) ts

  abbrev with_term : Bool → Term → List Term → List Term
  with_term none t ts = if none then ts else t ∷ ts

  low_end-same : (t : Term) → t.subject < length vs → int_min (t.coeff *ℤ get_or (lows vs) t.subject (pos 0)) (t.coeff *ℤ get_or (highs vs) t.subject (pos 0)) ≡ int_min (t.coeff *ℤ least_of (domain_at ds t.subject)) (t.coeff *ℤ greatest_of (domain_at ds t.subject))
  low_end-same t l =
      let e = ends t.subject l in
      ap (λ (z : ℤ). int_min (t.coeff *ℤ z) (t.coeff *ℤ get_or (highs vs) t.subject (pos 0))) (sym e.least) ∙ ap (λ (z : ℤ). int_min (t.coeff *ℤ least_of (domain_at ds t.subject)) (t.coeff *ℤ z)) (sym e.greatest)

  high_end-same : (t : Term) → t.subject < length vs → int_max (t.coeff *ℤ get_or (lows vs) t.subject (pos 0)) (t.coeff *ℤ get_or (highs vs) t.subject (pos 0)) ≡ int_max (t.coeff *ℤ least_of (domain_at ds t.subject)) (t.coeff *ℤ greatest_of (domain_at ds t.subject))
  high_end-same t l =
      let e = ends t.subject l in
      ap (λ (z : ℤ). int_max (t.coeff *ℤ z) (t.coeff *ℤ get_or (highs vs) t.subject (pos 0))) (sym e.least) ∙ ap (λ (z : ℤ). int_max (t.coeff *ℤ least_of (domain_at ds t.subject)) (t.coeff *ℤ z)) (sym e.greatest)

  least_one : (b : Bool) (t : Term) (ts us : List Term) → is_zero (domain_at ds t.subject) ≡ b → t.subject < length vs → least_sum vs (variables_in us) (coefficients_in us) ≡ least_of_terms ds ts → least_sum vs (variables_in (with_term b t us)) (coefficients_in (with_term b t us)) ≡ least_of_terms ds (t ∷ ts)
  least_one true t ts us z l rest = let e = zero_ends (domain_at ds t.subject) z in plus_none _ _ _ rest (no_more t.coeff _ _ e.0 e.1)
  least_one false t ts us z l rest = plus_same _ _ _ _ (low_end-same t l) rest

  least-kept : (ts : List Term) → All (λ t. t.subject < length vs) ts → least_sum vs (variables_in (kept_terms ds ts)) (coefficients_in (kept_terms ds ts)) ≡ least_of_terms ds ts
  least-kept [] h = refl
  least-kept (t ∷ ts) h = least_one (is_zero (domain_at ds t.subject)) t ts (kept_terms ds ts) refl (All-head (λ u. u.subject < length vs) t ts h) (least-kept ts (All-tail (λ u. u.subject < length vs) t ts h))

  greatest_one : (b : Bool) (t : Term) (ts us : List Term) → is_zero (domain_at ds t.subject) ≡ b → t.subject < length vs → greatest_sum vs (variables_in us) (coefficients_in us) ≡ greatest_of_terms ds ts → greatest_sum vs (variables_in (with_term b t us)) (coefficients_in (with_term b t us)) ≡ greatest_of_terms ds (t ∷ ts)
  greatest_one true t ts us z l rest = let e = zero_ends (domain_at ds t.subject) z in plus_none _ _ _ rest (no_greater t.coeff _ _ e.0 e.1)
  greatest_one false t ts us z l rest = plus_same _ _ _ _ (high_end-same t l) rest

  greatest-kept : (ts : List Term) → All (λ t. t.subject < length vs) ts → greatest_sum vs (variables_in (kept_terms ds ts)) (coefficients_in (kept_terms ds ts)) ≡ greatest_of_terms ds ts
  greatest-kept [] h = refl
  greatest-kept (t ∷ ts) h = greatest_one (is_zero (domain_at ds t.subject)) t ts (kept_terms ds ts) refl (All-head (λ u. u.subject < length vs) t ts h) (greatest-kept ts (All-tail (λ u. u.subject < length vs) t ts h))

  reach_one : (b : Bool) (t : Term) (ts us : List Term) → t.subject < length vs → reach_of vs (variables_in us) (coefficients_in us) ≤ terms_reach ds ts → reach_of vs (variables_in (with_term b t us)) (coefficients_in (with_term b t us)) ≤ terms_reach ds (t ∷ ts)
  reach_one true t ts us l rest = omega arith
  reach_one false t ts us l rest = let same = ap (λ (m : ℕ). unsigned_abs t.coeff * m) (ends t.subject l).reach in omega arith

  reach-kept : (ts : List Term) → All (λ t. t.subject < length vs) ts → reach_of vs (variables_in (kept_terms ds ts)) (coefficients_in (kept_terms ds ts)) ≤ terms_reach ds ts
  reach-kept [] h = omega arith
  reach-kept (t ∷ ts) h = reach_one (is_zero (domain_at ds t.subject)) t ts (kept_terms ds ts) (All-head (λ u. u.subject < length vs) t ts h) (reach-kept ts (All-tail (λ u. u.subject < length vs) t ts h))

  near_one : (b : Bool) (t : Term) (us : List Term) → is_zero (domain_at ds t.subject) ≡ b → unsigned_abs t.coeff * magnitude (domain_at ds t.subject) < 2 ^ 62 → All IsNear (coefficients_in us) → All IsNear (coefficients_in (with_term b t us))
  near_one true t us z small rest = rest
  near_one false t us z small rest =
      All-cons IsNear t.coeff (coefficients_in us) (near_factor (unsigned_abs t.coeff) (magnitude (domain_at ds t.subject)) small (not_zero (least_of (domain_at ds t.subject)) (greatest_of (domain_at ds t.subject)) z)) rest

  near-kept : (ts : List Term) → terms_reach ds ts < 2 ^ 62 → All IsNear (coefficients_in (kept_terms ds ts))
  near-kept [] h = All-nil IsNear
  near-kept (t ∷ ts) h = near_one (is_zero (domain_at ds t.subject)) t (kept_terms ds ts) refl (omega arith) (near-kept ts (omega arith))

  named_one : (b : Bool) (t : Term) (us : List Term) → t.subject < length vs → list_all (names (length vs)) (variables_in us) ≡ true → list_all (names (length vs)) (variables_in (with_term b t us)) ≡ true
  named_one true t us l rest = rest
  named_one false t us l rest = let here : nat_lt t.subject (length vs) ≡ true = lt-ltb t.subject (length vs) l in rw (here, rest) refl

  named-kept : (ts : List Term) → All (λ t. t.subject < length vs) ts → list_all (names (length vs)) (variables_in (kept_terms ds ts)) ≡ true
  named-kept [] h = refl
  named-kept (t ∷ ts) h = named_one (is_zero (domain_at ds t.subject)) t (kept_terms ds ts) (All-head (λ u. u.subject < length vs) t ts h) (named-kept ts (All-tail (λ u. u.subject < length vs) t ts h))

  value_one : (xs : List ℤ) (b : Bool) (t : Term) (ts us : List Term) → (b ≡ true → value_at xs t.subject ≡ pos 0) → sum_of xs (variables_in us) (coefficients_in us) ≡ terms_value xs ts → sum_of xs (variables_in (with_term b t us)) (coefficients_in (with_term b t us)) ≡ terms_value xs (t ∷ ts)
  value_one xs true t ts us z rest = plus_none _ _ _ rest (no_value t.coeff (value_at xs t.subject) (z refl))
  value_one xs false t ts us z rest = ap (λ (v : ℤ). t.coeff *ℤ value_at xs t.subject +ℤ v) rest

all_variables : (ts : List Term) → All (λ r. pos 0 ≤ℤ r) (map (λ t. pos t.subject) ts)
all_variables [] = All-nil (λ r. pos 0 ≤ℤ r)
all_variables (t ∷ ts) = All-cons (λ r. pos 0 ≤ℤ r) (pos t.subject) (map (λ t. pos t.subject) ts) (omega (arith, ints)) (all_variables ts)

same_size : (m n : ℕ) → m ≡ n → (m == n) ≡ true
same_size m n h = grind arith

value_nothing : (ps : Intervals) (x : ℤ) → AreIntervals ps → is_among ps x ≡ true → is_zero ps ≡ true → x ≡ pos 0
value_nothing ps x sound among z =
    let e = zero_ends ps z in
    let low = least_of-least ps x sound among in
    let high = greatest_of-greatest ps x sound among in
    between (least_of ps) x (greatest_of ps) e.0 e.1 low high where
      between : (l x g : ℤ) → l ≡ pos 0 → g ≡ pos 0 → l ≤ℤ x → x ≤ℤ g → x ≡ pos 0
      between l x g e f p q = omega (arith, ints)

-- the domains of an instance's variables have their ends
instance_ends : (p : Problem) → IsInstance p → (i : ℕ) → i < variable_count p → HasEnds (domain_at p.domains i) (get_or (lows p.model.variables) i (pos 0)) (get_or (highs p.model.variables) i (pos 0)) (get_or (map magnitude_of p.model.variables) i 0)
instance_ends p h =
    let count = h.domains.count in
    ends_at p.model.variables (λ i. domain_at p.domains i) (parts_of p.model h.valid).variables (λ i l. All-get_or AreIntervals p.domains i [] (omega arith) h.domains.sound) (λ i x l. h.domains.variables i x l)

value-kept : (p : Problem) (xs : List ℤ) (ts : List Term) → IsInstance p → AreVariableValues p xs → All (λ t. t.subject < variable_count p) ts → sum_of xs (map (λ t. pos t.subject) (kept_terms p.domains ts)) (map (λ t. t.coeff) (kept_terms p.domains ts)) ≡ terms_value xs ts
value-kept p xs [] h v k = refl
value-kept p xs (t ∷ ts) h v k =
    let l = All-head (λ u. u.subject < variable_count p) t ts k in
    let count = h.domains.count in
    let d = domain_at p.domains t.subject in
    let sound : AreIntervals d = All-get_or AreIntervals p.domains t.subject [] (omega arith) h.domains.sound in
    value_one p.model.variables p.domains (instance_ends p h) xs (is_zero d) t ts (kept_terms p.domains ts) (λ z. value_nothing d (value_at xs t.subject) sound (v t.subject l) z) (value-kept p xs ts h v (All-tail (λ u. u.subject < variable_count p) t ts k))

small_test : (n : ℕ) → n < 2 ^ 62 → nat_lt n (2 ^ 62) ≡ true
small_test n h = lt-ltb n (2 ^ 62) h

-- a sum over variables as an expression
pub is_expression : (p : Problem) (s : DefinedSum) → IsInstance p → All (λ t. t.subject < variable_count p) s.terms → terms_reach p.domains s.terms + unsigned_abs s.offset < 2 ^ 62 → IsExpressionOf p s (expression_of p.domains s)
is_expression p s h k small =
    let vs = p.model.variables in
    let ends = instance_ends p h in
    let us = kept_terms p.domains s.terms in
    let reach = reach-kept vs p.domains ends s.terms k in
    record {
      definable = record {
        variables = all_variables us;
        named = named-kept vs p.domains ends s.terms k;
        paired = same_size _ _ (length-map us (λ t. pos t.subject) ∙ sym (length-map us (λ t. t.coeff)));
        small = small_test _ (omega arith);
        coefficients = near-kept vs p.domains ends s.terms (omega arith);
      };
      value = λ xs v. ap (λ (z : ℤ). z +ℤ s.offset) (value-kept p xs s.terms h v k);
      least = ap (λ (z : ℤ). z +ℤ s.offset) (least-kept vs p.domains ends s.terms k);
      greatest = ap (λ (z : ℤ). z +ℤ s.offset) (greatest-kept vs p.domains ends s.terms k);
    }

-- ---- the expression as it is made

-- the terms up to a place, without those whose variable is 0 alone
pub record KeptSoFar (ds : Domains) (n : ℕ) (ts : List Term) (k : ℕ) (vars coeffs : List ℤ) : Type 0 where
  pub vars_are : vars ≡ map (λ t. pos t.subject) (kept_terms ds (take k ts))
  pub coeffs_are : coeffs ≡ map (λ t. t.coeff) (kept_terms ds (take k ts))
  pub over : All (λ t. t.subject < n) (take k ts)

kept_first : (c : Bool) (s : Term) (us vs ws : List Term) → us ≡ vs ++ ws → (if c then us else s ∷ us) ≡ (if c then vs else s ∷ vs) ++ ws
kept_first true s us vs ws e = e
kept_first false s us vs ws e = ap (λ ts. s ∷ ts) e

kept_more : (ds : Domains) (ts : List Term) (t : Term) (b : Bool) → is_zero (domain_at ds t.subject) ≡ b → kept_terms ds (ts ++ t ∷ []) ≡ kept_terms ds ts ++ (if b then [] else t ∷ [])
kept_more ds [] t b e = ap (λ (c : Bool). if c then [] else t ∷ []) e
kept_more ds (s ∷ ts) t b e = kept_first (is_zero (domain_at ds s.subject)) s (kept_terms ds (ts ++ t ∷ [])) (kept_terms ds ts) (if b then [] else t ∷ []) (kept_more ds ts t b e)

pub kept_at_start : (ds : Domains) (n : ℕ) (ts : List Term) → KeptSoFar ds n ts 0 [] []
kept_at_start ds n ts = record { vars_are = refl; coeffs_are = refl; over = All-nil (λ t. t.subject < n) }

-- a term that is kept
pub kept_with : (ds : Domains) (n : ℕ) (ts : List Term) (k : ℕ) (vars coeffs vars' coeffs' : List ℤ) (t : Term) → KeptSoFar ds n ts k vars coeffs → k < length ts → t ≡ get_or ts k t → t.subject < n → is_zero (domain_at ds t.subject) ≡ false → vars' ≡ vars ++ pos t.subject ∷ [] → coeffs' ≡ coeffs ++ t.coeff ∷ [] → KeptSoFar ds n ts (k + 1) vars' coeffs'
kept_with ds n ts k vars coeffs vars' coeffs' t h l e below z ev ec =
    let more : take (k + 1) ts ≡ take k ts ++ t ∷ [] = take_more ts k t l ∙ ap (λ (u : Term). take k ts ++ u ∷ []) (sym e) in
    let kept : kept_terms ds (take (k + 1) ts) ≡ kept_terms ds (take k ts) ++ t ∷ [] = ap (kept_terms ds) more ∙ kept_more ds (take k ts) t false z in
    record {
      vars_are = ev ∙ ap (λ (xs : List ℤ). xs ++ pos t.subject ∷ []) h.vars_are ∙ sym (ap (map (λ (u : Term). pos u.subject)) kept ∙ map-append (λ (u : Term). pos u.subject) (kept_terms ds (take k ts)) (t ∷ []));
      coeffs_are = ec ∙ ap (λ (xs : List ℤ). xs ++ t.coeff ∷ []) h.coeffs_are ∙ sym (ap (map (λ (u : Term). u.coeff)) kept ∙ map-append (λ (u : Term). u.coeff) (kept_terms ds (take k ts)) (t ∷ []));
      over = subst (λ (us : List Term). All (λ u. u.subject < n) us) (sym more) (All-push (λ (u : Term). u.subject < n) (take k ts) t h.over below);
    }

-- one that is left out
pub kept_without : (ds : Domains) (n : ℕ) (ts : List Term) (k : ℕ) (vars coeffs : List ℤ) (t : Term) → KeptSoFar ds n ts k vars coeffs → k < length ts → t ≡ get_or ts k t → t.subject < n → is_zero (domain_at ds t.subject) ≡ true → KeptSoFar ds n ts (k + 1) vars coeffs
kept_without ds n ts k vars coeffs t h l e below z =
    let more : take (k + 1) ts ≡ take k ts ++ t ∷ [] = take_more ts k t l ∙ ap (λ (u : Term). take k ts ++ u ∷ []) (sym e) in
    let kept : kept_terms ds (take (k + 1) ts) ≡ kept_terms ds (take k ts) = ap (kept_terms ds) more ∙ kept_more ds (take k ts) t true z ∙ append-nil (kept_terms ds (take k ts)) in
    record {
      vars_are = h.vars_are ∙ sym (ap (map (λ (u : Term). pos u.subject)) kept);
      coeffs_are = h.coeffs_are ∙ sym (ap (map (λ (u : Term). u.coeff)) kept);
      over = subst (λ (us : List Term). All (λ u. u.subject < n) us) (sym more) (All-push (λ (u : Term). u.subject < n) (take k ts) t h.over below);
    }

-- the domain of a variable as it is read
pub read_domain : (p : Problem) (ws : List Window) (w : Window) (i : ℕ) → IsInstance p → map intervals ws ≡ p.domains → length ws ≡ length p.domains → i < variable_count p → w ≡ get_or ws i w → intervals w ≡ domain_at p.domains i
read_domain p ws w i h list size l at =
    let count = h.domains.count in
    ap (λ (v : Window). intervals v) at ∙ sym (get_or-map intervals ws i w [] (omega arith)) ∙ ap (λ (ds : Domains). domain_at ds i) list

same_expression : (vs ws cs ds : List ℤ) (o n : ℤ) → vs ≡ ws → cs ≡ ds → o ≡ n → (let e : LinearExpr = record { vars = vs; coeffs = cs; offset = o } in e) ≡ (let e : LinearExpr = record { vars = ws; coeffs = ds; offset = n } in e)
same_expression vs ws cs ds o n e f g = rw (e, f, g) refl

-- the whole
pub has_expression : (p : Problem) (body : Body) (subject : ℕ) (ts : List Term) (offset : ℤ) (k : ℕ) (vars coeffs vars' coeffs' : List ℤ) (offset' : ℤ) → body ≡ Sum subject ts offset → KeptSoFar p.domains (variable_count p) ts k vars coeffs → length ts ≤ k → vars' ≡ vars → coeffs' ≡ coeffs → offset' ≡ offset
    → HasExpression p body (record { vars = vars'; coeffs = coeffs'; offset = offset' })
has_expression p body subject ts offset k vars coeffs vars' coeffs' offset' body_is h l v c o =
    let whole : take k ts ≡ ts = take_all k ts l in
    record {
      subject = subject;
      sum = record { terms = ts; offset = offset };
      body_is = body_is;
      over = subst (λ (us : List Term). All (λ u. u.subject < variable_count p) us) whole h.over;
      is = same_expression vars' _ coeffs' _ offset' offset (v ∙ h.vars_are ∙ ap (λ (us : List Term). map (λ u. pos u.subject) (kept_terms p.domains us)) whole) (c ∙ h.coeffs_are ∙ ap (λ (us : List Term). map (λ u. u.coeff) (kept_terms p.domains us)) whole) o;
    }
