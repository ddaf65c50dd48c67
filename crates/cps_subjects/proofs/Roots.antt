-- Over the variables' own domains the ends of a sum are its least and its greatest value.
use Rattle.std.specs.Prelude.{All, None, int_le, ◌&&◌}
use Rattle.std.specs.List.{list_all}
use Rattle.std.specs.Int.{int_min, int_max}
use Rattle.std.proofs.Common.{◌≡◌, ℕ, zero, suc, ◌-◌, ◌<◌, List, [], ◌∷◌, length, get_or, map, Bool, true, false, subst, refl, sym, ◌∙◌, sub-one, arith, ℤ, pos, negsuc, neg_ℤ, ◌*ℤ◌, ◌≤ℤ◌}
use Rattle.std.proofs.lemmas.Int.{ints}
use borrow.Author.Tests.{ltb-true}
use Rattle.cps_model.specs.declared.model.Variable.{Variable}
use Rattle.cps_model.specs.Values.{variable_of, reference_value}
use Rattle.cps_model.specs.Within.{is_within, is_well_shaped, begins_after}
use Rattle.cps_model.specs.Reach.{low_of, high_of}
use Rattle.cps_model.specs.Rules.{names}
use Rattle.cps_model.specs.Start.{lows, highs, least_sum}
use Rattle.cps_model.specs.Ranges.{greatest_sum}
use Rattle.cps_model.specs.Validity.{variable_fault}
use Rattle.cps_model.proofs.Tests.{and_true}
use Rattle.cps_model.proofs.Inside.{between_of, shape_of}
use Rattle.cps_model.proofs.Divisors.{times_neg}
use Rattle.cps_validate.specs.Signs.{with_sign_of}
use Rattle.cps_unit.specs.Boxes.{Box}
use Rattle.cps_log.specs.Boxes.{Spans, HasEnds}
use Rattle.cps_subjects.proofs.Bounds.{shaped_of}
use Rattle.cps_subjects.proofs.Products.{HasRange, product_spans, opposite_spans}
use Rattle.cps_subjects.proofs.Unique.{AreSame, spans_unique}

-- ---- the first and the last bound are values

at_first : (x y : ℤ) (rest : List ℤ) → x ≤ℤ y → is_within (x ∷ y ∷ rest) x ≡ true
at_first x y rest h =
    let one : int_le x x ≡ true = grind (arith, ints) in
    let two : int_le x y ≡ true = grind (arith, ints) in
    rw (one, two) refl

ordered : (x y : ℤ) (rest : List ℤ) → is_well_shaped (x ∷ y ∷ rest) ≡ true → x ≤ℤ y
ordered x y rest h =
    let first = (and_true (int_le x y) (begins_after y rest) (and_true (int_le x y && begins_after y rest) (is_well_shaped rest) h).0).0 in
    grind (arith, ints)

pub first_within : (bs : List ℤ) → is_well_shaped bs ≡ true → 0 < length bs → is_within bs (get_or bs 0 (pos 0)) ≡ true
first_within [] h l = absurd (omega arith)
first_within (x ∷ []) h l = cc
first_within (x ∷ y ∷ rest) h l = at_first x y rest (ordered x y rest h)

at_last : (x y : ℤ) → x ≤ℤ y → is_within (x ∷ y ∷ []) y ≡ true
at_last x y h =
    let one : int_le x y ≡ true = grind (arith, ints) in
    let two : int_le y y ≡ true = grind (arith, ints) in
    rw (one, two) refl

last_more : (x y z : ℤ) (bs : List ℤ) → get_or (x ∷ y ∷ z ∷ bs) (length (x ∷ y ∷ z ∷ bs) - 1) (pos 0) ≡ get_or (z ∷ bs) (length (z ∷ bs) - 1) (pos 0)
last_more x y z bs = simp sub-one

within_more : (x y v : ℤ) (bs : List ℤ) (here : Bool) → (int_le x v && int_le v y) ≡ here → is_within bs v ≡ true → is_within (x ∷ y ∷ bs) v ≡ true
within_more x y v bs true e h = rw e refl
within_more x y v bs false e h = rw e h

pub last_within : (bs : List ℤ) → is_well_shaped bs ≡ true → 0 < length bs → is_within bs (get_or bs (length bs - 1) (pos 0)) ≡ true
last_within [] h l = absurd (omega arith)
last_within (x ∷ []) h l = cc
last_within (x ∷ y ∷ []) h l = at_last x y (ordered x y [] h)
last_within (x ∷ y ∷ z ∷ bs) h l =
    let rest = (and_true (int_le x y && begins_after y (z ∷ bs)) (is_well_shaped (z ∷ bs)) h).1 in
    let there = last_within (z ∷ bs) rest (omega arith) in
    rw (last_more x y z bs) (within_more x y (get_or (z ∷ bs) (length (z ∷ bs) - 1) (pos 0)) (z ∷ bs) _ refl there)

range_of : (v : Variable) → variable_fault v ≡ None → HasRange (is_within v.domain) (low_of v) (high_of v)
range_of v f =
    let shape = shape_of v f in
    let some = (shaped_of v f).some in
    record {
      least = first_within v.domain shape some;
      greatest = last_within v.domain shape some;
      above = λ x h. (between_of v.domain x shape h).low;
      below = λ x h. (between_of v.domain x shape h).high;
    }

-- the domain of a variable by its number
abbrev pub domain_at : List Variable → ℕ → List ℤ
domain_at vs i = get_or (map (λ (v : Variable). v.domain) vs) i []

range_at : (vs : List Variable) (i : ℕ) → All (λ v. variable_fault v ≡ None) vs → i < length vs → HasRange (is_within (domain_at vs i)) (get_or (lows vs) i (pos 0)) (get_or (highs vs) i (pos 0))
range_at [] i f l = absurd (omega arith)
range_at (v ∷ vs) zero f l = range_of v (f 0 v (omega arith))
range_at (v ∷ vs) (suc i) f l = range_at vs i (λ k d h. f (suc k) d (omega arith)) (omega arith)

-- ---- the ends of a term

neg_max : (a b : ℤ) → neg_ℤ (int_max a b) ≡ int_min (neg_ℤ a) (neg_ℤ b)
neg_max a b = grind (arith, ints)

neg_min : (a b : ℤ) → neg_ℤ (int_min a b) ≡ int_max (neg_ℤ a) (neg_ℤ b)
neg_min a b = grind (arith, ints)

term_spans : (admits : ℤ → Bool) (r c l g : ℤ) → HasRange admits l g → Spans admits (λ x. c *ℤ with_sign_of r x) (int_min (c *ℤ with_sign_of r l) (c *ℤ with_sign_of r g)) (int_max (c *ℤ with_sign_of r l) (c *ℤ with_sign_of r g))
term_spans admits (pos i) c l g range = product_spans admits c l g range
term_spans admits (negsuc i) c l g range =
    let opposite = opposite_spans admits c (int_min (c *ℤ l) (c *ℤ g)) (int_max (c *ℤ l) (c *ℤ g)) (product_spans admits c l g range) in
    let low : neg_ℤ (int_max (c *ℤ l) (c *ℤ g)) ≡ int_min (c *ℤ neg_ℤ l) (c *ℤ neg_ℤ g) = neg_max (c *ℤ l) (c *ℤ g) ∙ sym (rw (times_neg c l, times_neg c g) refl) in
    let high : neg_ℤ (int_min (c *ℤ l) (c *ℤ g)) ≡ int_max (c *ℤ neg_ℤ l) (c *ℤ neg_ℤ g) = neg_min (c *ℤ l) (c *ℤ g) ∙ sym (rw (times_neg c l, times_neg c g) refl) in
    rw (← low, ← high) opposite

reference_is : (a : List ℤ) (r : ℤ) → reference_value a r ≡ with_sign_of r (get_or a (variable_of r) (pos 0))
reference_is a (pos i) = refl
reference_is a (negsuc i) = refl

-- a box that has of the variables what their domains have
pub record IsWhole (vs : List Variable) (box : Box) : Type 0 where
  pub same : (i : ℕ) → i < length vs → box i ≡ is_within (domain_at vs i)

pub root_ends : (vs : List Variable) (box : Box) (rs cs : List ℤ) (l h : ℤ) → All (λ v. variable_fault v ≡ None) vs → IsWhole vs box → list_all (names (length vs)) rs ≡ true → HasEnds box rs cs l h → AreSame l (least_sum vs rs cs) h (greatest_sum vs rs cs)
root_ends vs box [] cs l h f w n e = record { lows = e.0; highs = e.1 }
root_ends vs box (r ∷ rs) [] l h f w n e = record { lows = e.0; highs = e.1 }
root_ends vs box (r ∷ rs) (c ∷ cs) l h f w n e =
    let both = and_true (names (length vs) r) (list_all (names (length vs)) rs) n in
    let below : variable_of r < length vs = ltb-true _ _ both.0 in
    let low = get_or (lows vs) (variable_of r) (pos 0) in
    let high = get_or (highs vs) (variable_of r) (pos 0) in
    let here : Spans (is_within (domain_at vs (variable_of r))) (λ x. c *ℤ with_sign_of r x) e.0 e.1 = subst (λ (b : ℤ → Bool). Spans b (λ x. c *ℤ with_sign_of r x) e.0 e.1) (w.same (variable_of r) below) e.4 in
    let same = spans_unique (is_within (domain_at vs (variable_of r))) (λ x. c *ℤ with_sign_of r x) e.0 e.1 _ _ here (term_spans (is_within (domain_at vs (variable_of r))) r c low high (range_at vs (variable_of r) f below)) in
    let rest = root_ends vs box rs cs e.2 e.3 f w both.1 e.5 in
    record {
      lows = rw (reference_is (lows vs) r, reference_is (highs vs) r, e.6, same.lows, rest.lows) refl;
      highs = rw (reference_is (lows vs) r, reference_is (highs vs) r, e.7, same.highs, rest.highs) refl;
    }
