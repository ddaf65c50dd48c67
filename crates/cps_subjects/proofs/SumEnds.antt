-- The ends of a sum, one term after another.
use Rattle.std.specs.Prelude.{unsigned_abs, All, None}
use Rattle.std.specs.List.{list_all}
use Rattle.std.proofs.Common.{◌≡◌, ℕ, zero, suc, ◌+◌, ◌-◌, ◌*◌, ◌<◌, ◌≤◌, ◌^◌, List, [], ◌∷◌, length, get_or, drop, map, true, refl, sym, ◌∙◌, ap, subst, arith, ℤ, pos, negsuc, neg_ℤ, ◌+ℤ◌, ◌*ℤ◌}
use Rattle.std.proofs.Math.Nat.{mul-le-mul_left}
use Rattle.std.proofs.lemmas.Int.{ints, unsigned_abs-mul}
use Rattle.std.proofs.lemmas.List.{drop_more, drop_all, get_or_read}
use Rattle.cps_domain.specs.Window.{Window, contains}
use borrow.Author.Tests.{ltb-true}
use Rattle.cps_model.specs.declared.model.Variable.{Variable}
use Rattle.cps_model.specs.Values.{variable_of}
use Rattle.cps_model.specs.Within.{is_within}
use Rattle.cps_model.specs.Reach.{magnitude_of, magnitude_at, reach_of}
use Rattle.cps_model.specs.Rules.{names}
use Rattle.cps_model.specs.Validity.{variable_fault}
use Rattle.cps_model.proofs.Tests.{and_true}
use Rattle.cps_model.proofs.Sums.{unsigned_abs-add}
use Rattle.cps_model.proofs.Inside.{between_of, shape_of, unsigned_abs-between}
use Rattle.cps_model.proofs.Divisors.{times_neg}
use Rattle.cps_validate.specs.Signs.{with_sign_of}
use Rattle.cps_unit.specs.Boxes.{Box}
use Rattle.cps_log.specs.Boxes.{Spans, HasEnds}
use Rattle.cps_rup.specs.Domains.{no_values, box_in}
use Rattle.cps_subjects.specs.Domains.{HasReach}

-- what is left to a subject is what its domain has
pub box_is : (domains : List Window) (s i : ℕ) (d : Window) → s < length domains → i ≡ s → d ≡ get_or domains i d → contains d ≡ box_in domains s
box_is domains s i d l is e = ap contains (get_or_read domains s d l (subst (λ (j : ℕ). d ≡ get_or domains j d) is e) no_values)

-- ---- the ends

-- the ends of one term more
pub ends_with : (box : Box) (vars coeffs : List ℤ) (k : ℕ) (r c low high l h low' high' : ℤ)
    → k < length vars → k < length coeffs → r ≡ get_or vars k (pos 0) → c ≡ get_or coeffs k (pos 0)
    → ((x y : ℤ) → HasEnds box (drop k vars) (drop k coeffs) x y → HasEnds box vars coeffs (low +ℤ x) (high +ℤ y))
    → Spans (box (variable_of r)) (λ x. c *ℤ with_sign_of r x) l h → low' ≡ low +ℤ l → high' ≡ high +ℤ h
    → (x y : ℤ) → HasEnds box (drop (k + 1) vars) (drop (k + 1) coeffs) x y → HasEnds box vars coeffs (low' +ℤ x) (high' +ℤ y)
ends_with box vars coeffs k r c low high l h low' high' p q er ec before spans el eh x y rest =
    let first : drop k vars ≡ r ∷ drop (k + 1) vars = drop_more vars k (pos 0) p ∙ ap (λ z. z ∷ drop (k + 1) vars) (sym er) in
    let second : drop k coeffs ≡ c ∷ drop (k + 1) coeffs = drop_more coeffs k (pos 0) q ∙ ap (λ z. z ∷ drop (k + 1) coeffs) (sym ec) in
    let here : HasEnds box (r ∷ drop (k + 1) vars) (c ∷ drop (k + 1) coeffs) (l +ℤ x) (h +ℤ y) = (l, h, x, y, spans, rest, refl, refl) in
    let one : HasEnds box (drop k vars) (c ∷ drop (k + 1) coeffs) (l +ℤ x) (h +ℤ y) = subst (λ (rs : List ℤ). HasEnds box rs (c ∷ drop (k + 1) coeffs) (l +ℤ x) (h +ℤ y)) (sym first) here in
    let two : HasEnds box (drop k vars) (drop k coeffs) (l +ℤ x) (h +ℤ y) = subst (λ (cs : List ℤ). HasEnds box (drop k vars) cs (l +ℤ x) (h +ℤ y)) (sym second) one in
    let all = before (l +ℤ x) (h +ℤ y) two in
    let low_is : low' +ℤ x ≡ low +ℤ (l +ℤ x) = omega (arith, ints) in
    let high_is : high' +ℤ y ≡ high +ℤ (h +ℤ y) = omega (arith, ints) in
    rw (low_is, high_is) all

pub ends_whole : (box : Box) (vars coeffs : List ℤ) (k : ℕ) (low high : ℤ)
    → length vars ≤ k → ((x y : ℤ) → HasEnds box (drop k vars) (drop k coeffs) x y → HasEnds box vars coeffs (low +ℤ x) (high +ℤ y))
    → HasEnds box vars coeffs low high
ends_whole box vars coeffs k low high l before =
    let none : drop k vars ≡ [] = drop_all k vars l in
    let last : HasEnds box (drop k vars) (drop k coeffs) (pos 0) (pos 0) = subst (λ (rs : List ℤ). HasEnds box rs (drop k coeffs) (pos 0) (pos 0)) (sym none) (refl, refl) in
    let all = before (pos 0) (pos 0) last in
    let low_is : low +ℤ pos 0 ≡ low = omega (arith, ints) in
    let high_is : high +ℤ pos 0 ≡ high = omega (arith, ints) in
    rw (← low_is, ← high_is) all

-- ---- the reach

-- a number with a bounded product is bounded with either sign
signed_size : (r c x : ℤ) → unsigned_abs (c *ℤ with_sign_of r x) ≡ unsigned_abs (c *ℤ x)
signed_size (pos i) c x = refl
signed_size (negsuc i) c x =
    let e : c *ℤ neg_ℤ x ≡ neg_ℤ (c *ℤ x) = times_neg c x in
    rw e (omega (arith, ints))

-- the reach that is left after one term
pub record HasTerm (box : Box) (vars coeffs : List ℤ) (k n : ℕ) (r c : ℤ) : Type 0 where
  pub bound : ℕ
  pub below : (x : ℤ) → box (variable_of r) x ≡ true → unsigned_abs (c *ℤ x) ≤ bound
  pub within : bound ≤ n
  pub rest : HasReach box (drop (k + 1) vars) (drop (k + 1) coeffs) (n - bound)

pub term_of : (box : Box) (vars coeffs : List ℤ) (k n : ℕ) (r c : ℤ) → k < length vars → k < length coeffs → r ≡ get_or vars k (pos 0) → c ≡ get_or coeffs k (pos 0) → HasReach box (drop k vars) (drop k coeffs) n → HasTerm box vars coeffs k n r c
term_of box vars coeffs k n r c p q er ec h =
    let first : drop k vars ≡ r ∷ drop (k + 1) vars = drop_more vars k (pos 0) p ∙ ap (λ z. z ∷ drop (k + 1) vars) (sym er) in
    let second : drop k coeffs ≡ c ∷ drop (k + 1) coeffs = drop_more coeffs k (pos 0) q ∙ ap (λ z. z ∷ drop (k + 1) coeffs) (sym ec) in
    let one : HasReach box (r ∷ drop (k + 1) vars) (drop k coeffs) n = subst (λ (rs : List ℤ). HasReach box rs (drop k coeffs) n) first h in
    let here : HasReach box (r ∷ drop (k + 1) vars) (c ∷ drop (k + 1) coeffs) n = subst (λ (cs : List ℤ). HasReach box (r ∷ drop (k + 1) vars) cs n) second one in
    record { bound = here.0; below = here.1; within = here.2; rest = here.3 }

-- an end of a term is bounded as its values are
pub end_bounded : (box : Box) (r c l h : ℤ) (bound : ℕ) → ((x : ℤ) → box (variable_of r) x ≡ true → unsigned_abs (c *ℤ x) ≤ bound) → Spans (box (variable_of r)) (λ x. c *ℤ with_sign_of r x) l h → (unsigned_abs l ≤ bound) × (unsigned_abs h ≤ bound)
end_bounded box r c l h bound below s =
    let lowest = s.lowest in
    let highest = s.highest in
    (rw (← lowest.2, signed_size r c lowest.0) (below lowest.0 lowest.1), rw (← highest.2, signed_size r c highest.0) (below highest.0 highest.1))

-- what is left to a variable is within its domain
pub record IsBelowDomains (vs : List Variable) (box : Box) : Type 0 where
  pub at : (s : ℕ) (x : ℤ) → s < length vs → box s x ≡ true → is_within (get_or (map (λ (v : Variable). v.domain) vs) s []) x ≡ true

within_bounds : (vs : List Variable) (s : ℕ) (x : ℤ) → All (λ v. variable_fault v ≡ None) vs → s < length vs → is_within (get_or (map (λ (v : Variable). v.domain) vs) s []) x ≡ true → unsigned_abs x ≤ get_or (map magnitude_of vs) s 0
within_bounds [] s x f l w = absurd (omega arith)
within_bounds (v ∷ vs) zero x f l w =
    let between = between_of v.domain x (shape_of v (f 0 v (omega arith))) w in
    unsigned_abs-between _ x _ between.low between.high
within_bounds (v ∷ vs) (suc s) x f l w = within_bounds vs s x (λ k d h. f (suc k) d (omega arith)) (omega arith) w

-- a sum of small reach over the model's variables has this reach over what is left to them
pub reach_left : (vs : List Variable) (box : Box) (rs cs : List ℤ) (n : ℕ) → All (λ v. variable_fault v ≡ None) vs → IsBelowDomains vs box → list_all (names (length vs)) rs ≡ true → reach_of vs rs cs ≤ n → HasReach box rs cs n
reach_left vs box [] cs n f b named l = tt
reach_left vs box (r ∷ rs) [] n f b named l = tt
reach_left vs box (r ∷ rs) (c ∷ cs) n f b named l =
    let both = and_true (names (length vs) r) (list_all (names (length vs)) rs) named in
    let below : variable_of r < length vs = ltb-true _ _ both.0 in (
      unsigned_abs c * magnitude_at vs r,
      (λ x h. rw (unsigned_abs-mul c x) (mul-le-mul_left (unsigned_abs c) (within_bounds vs (variable_of r) x f below (b.at (variable_of r) x below h)))),
      omega arith,
      reach_left vs box rs cs (n - unsigned_abs c * magnitude_at vs r) f b both.1 (omega arith),
    )

-- ---- what one turn of the loop knows

-- the ends of a term, and what is left for those behind it
pub record HasTurn (box : Box) (vars coeffs : List ℤ) (k : ℕ) (low high l h : ℤ) : Type 0 where
  pub low_fits : unsigned_abs low + unsigned_abs l < 2 ^ 62
  pub high_fits : unsigned_abs high + unsigned_abs h < 2 ^ 62
  pub reach : (n : ℕ) × HasReach box (drop (k + 1) vars) (drop (k + 1) coeffs) n × (unsigned_abs (low +ℤ l) + n < 2 ^ 62) × (unsigned_abs (high +ℤ h) + n < 2 ^ 62)

pub turn_of : (box : Box) (vars coeffs : List ℤ) (k n : ℕ) (r c low high l h : ℤ) → HasTerm box vars coeffs k n r c → unsigned_abs low + n < 2 ^ 62 → unsigned_abs high + n < 2 ^ 62 → Spans (box (variable_of r)) (λ x. c *ℤ with_sign_of r x) l h → HasTurn box vars coeffs k low high l h
turn_of box vars coeffs k n r c low high l h t a b s =
    let ends = end_bounded box r c l h t.bound t.below s in
    let low_is = ends.0 in
    let high_is = ends.1 in
    let within = t.within in
    let one = unsigned_abs-add low l in
    let two = unsigned_abs-add high h in
    record {
      low_fits = omega arith;
      high_fits = omega arith;
      reach = (n - t.bound, t.rest, omega arith, omega arith);
    }
