-- The steps of trying a constraint: what is read of it, and the values that a variable is given.
use Rattle.std.specs.Prelude.{Contains, All, None, Some, Option, if◌then◌else◌, nat_lt, slice_get}
use Rattle.std.proofs.Common.{◌≡◌, ℕ, zero, suc, ◌+◌, ◌-◌, ◌<◌, ◌≤◌, ◌<ℤ◌, ◌≤ℤ◌, ◌+ℤ◌, List, [], ◌∷◌, ◌++◌, length, drop, get_or, set, Bool, true, false, ◌⊎◌, inl, inr, refl, sym, ◌∙◌, ap, subst, arith, ℤ, pos, negsuc, ◌^◌, w64, FitsSigned, to_z, of_z}
use Rattle.std.proofs.lemmas.List.{drop_more, drop_all}
use Rattle.std.proofs.lemmas.List.Folds.{list_any_at}
use Rattle.std.proofs.lemmas.Int.{ints, by_lt_z, to_z-of_z, fits_signed_from_abs}
use Rattle.std.proofs.lemmas.List.{get_or-set_other, append-nil}
use Rattle.std.proofs.lemmas.List.Elements.{Contains-get_or, Contains-append_right}
use Rattle.std.specs.Prelude.{Result, Ok, Err, IfOk, not}
use Rattle.cps_model.specs.declared.model.CpModel.{CpModel}
use Rattle.cps_model.specs.declared.model.LinearExpr.{LinearExpr}
use Rattle.cps_model.specs.declared.model.Variable.{Variable}
use Rattle.cps_model.specs.declared.constraint.Constraint.{Constraint}
use Rattle.cps_model.specs.Values.{variable_value}
use Rattle.cps_model.specs.Ready.{is_ready, are_small}
use Rattle.cps_model.specs.Solutions.{are_within}
use Rattle.cps_model.specs.Validity.{IsValid}
use Rattle.cps_model.proofs.Inside.{inside_of, length-are_within, sums_ready}
use Rattle.cps_model.proofs.Tests.{and_true, both_true}
use Rattle.cps_model.proofs.Faults.{parts_of}
use Rattle.cps_domain.specs.Window.{Window, contains, intervals, within, is_among, IsDomain, IsIntervalAbove, RisesFrom}
use Rattle.cps_domain.proofs.Rising.{rising_at}
use Rattle.cps_domain.proofs.Tests.{within_low, within_high, is_within, or_cases}
use Rattle.cps_literal.specs.declared.atom.Atom.{Atom}
use Rattle.cps_unit.specs.Boxes.{Box}
use Rattle.cps_log.specs.Subjects.{IsDefinable, sum_at}
use Rattle.cps_cert.specs.declared.assignments.Assignments.{Assignments}
use Rattle.cps_cert.specs.Counting.{HasAssignments, read_variables, sum_variables, variables_of_some_sum}
use Rattle.cps_rup.specs.Domains.{box_in}
use Rattle.cps_cert.specs.Trying.{IsInDomains, IsRead, HasRead, ReadsOn, IsReached, CanReach}
use Rattle.cps_cert.proofs.Steps.{item_step, reads_then}
use Rattle.cps_cert.specs.Counting.{most_assignments}
use Rattle.cps_cert.specs.Refuting.{IsRefutedByAll}
use Rattle.cps_cert.specs.Trying.{IsBoxOf, IsTooMuch, IsGood}
use Rattle.cps_log.specs.Subjects.{IsClauseOver, subject_count}
use Rattle.std.specs.Prelude.{int_lt}
use Rattle.cps_subjects.proofs.SumEnds.{box_is}
use Rattle.cps_cert.proofs.Reached.{too_much_to_try}
use Rattle.cps_cert.proofs.AllTried.{counted_same, reached_not_refuted, not_reached_refuted}
use Rattle.cps_cert.proofs.Searching.{reach_at, reach_more, reach_here, here_reached}

-- ---- sums

some_same : (d e : LinearExpr) → Some d ≡ Some e → d ≡ e
some_same d e h = cc

definable_at : (vs : List Variable) (sums : List LinearExpr) (k : ℕ) (e : LinearExpr) → slice_get sums k ≡ Some e → All (IsDefinable vs) sums → IsDefinable vs e
definable_at vs [] k e h all = cc
definable_at vs (x ∷ xs) zero e h all = subst (λ (y : LinearExpr). IsDefinable vs y) (some_same x e h) (all 0 x (omega arith))
definable_at vs (x ∷ xs) (suc k) e h all = definable_at vs xs k e h (λ i d l. all (suc i) d (omega arith))

definable_by : (vs : List Variable) (sums : List LinearExpr) (k : ℕ) (e : LinearExpr) (b : Bool) → (if b then None else slice_get sums k) ≡ Some e → All (IsDefinable vs) sums → IsDefinable vs e
definable_by vs sums k e true h all = cc
definable_by vs sums k e false h all = definable_at vs sums k e h all

pub ready_sum : (m : CpModel) (sums : List LinearExpr) (s : ℕ) (e : LinearExpr) (a : List ℤ) → IsValid m → All (IsDefinable m.variables) sums → sum_at m.variables sums s ≡ Some e → are_within m.variables a ≡ true → is_ready a e ≡ true
ready_sum m sums s e a valid all at w =
    let vs = m.variables in
    let d = definable_by vs sums (s - length vs) e (nat_lt s (length vs)) at all in
    let inside = inside_of vs a (parts_of m valid).variables w in
    let long = length-are_within vs a w in
    (and_true (is_ready a e) true (sums_ready vs a (e ∷ []) inside long (both_true _ _ d.named refl) (both_true _ _ d.paired refl) (both_true _ _ d.small refl))).0

pub small_values : (m : CpModel) (a : List ℤ) → IsValid m → are_within m.variables a ≡ true → are_small a ≡ true
small_values m a valid w = (inside_of m.variables a (parts_of m valid).variables w).small

-- ---- what is read

-- an item of a list, whatever stands for a lack
pub at_any : {X : Type 0} (xs : List X) (k : ℕ) (x c d : X) → k < length xs → x ≡ get_or xs k c → x ≡ get_or xs k d
at_any [] k x c d l e = absurd (omega arith)
at_any (y ∷ ys) zero x c d l e = e
at_any (y ∷ ys) (suc k) x c d l e = at_any ys k x c d (omega arith) e

pub atom_step : (vs : List Variable) (sums : List LinearExpr) (clause : List Atom) (domains : List Window) (s t new : Assignments) (k : ℕ) (x : Atom) (o : Option LinearExpr) → k < length clause → sum_at vs sums (get_or clause k x).subject ≡ o → ReadsOn domains s (variables_of_some_sum o) t → ReadsOn domains t (sum_variables vs sums (drop (k + 1) clause)) new → ReadsOn domains s (sum_variables vs sums (drop k clause)) new
atom_step vs sums clause domains s t new k x o l e f g =
    let F = λ (y : Atom). variables_of_some_sum (sum_at vs sums y.subject) in
    item_step F domains s t new clause k (get_or clause k x) l (at_any clause k (get_or clause k x) x (get_or clause k x) l refl) (subst (λ (p : Option LinearExpr). ReadsOn domains s (variables_of_some_sum p) t) (sym e) f) g

counted_none : (box : Box) (i n : ℕ) → HasAssignments box [] i n 1
counted_none box i zero = refl
counted_none box i (suc n) = counted_none box (i + 1) n

none_contained : {A : Type 0} (v : ℕ) → Contains [] v → A
none_contained v c = let l = c.1 in absurd (omega arith)

none_read : (box : Box) (n : ℕ) (values : List ℤ) → IsRead box n [] values [] 1
none_read box n values = record {
  few = omega arith;
  counted = counted_none box 0 n;
  within = λ v c. none_contained v c;
  before = λ v c. none_contained v c;
  settled = λ v l c. none_contained v c;
}

pub has_read_none : (domains : List Window) (vs : List Variable) (s : Assignments) → are_within vs s.values.items ≡ true → s.unfixed.items ≡ [] → s.count ≡ 1 → HasRead (box_in domains) vs [] s
has_read_none domains vs s w u k = record {
  valued = w;
  state = inl (rw (u, k) (none_read (box_in domains) (length vs) s.values.items));
}

pub read_all : (domains : List Window) (vs : List Variable) (cs ms : List Constraint) (k : ℕ) (x d : Constraint) (s t u : Assignments) (sv : List ℕ) → cs ≡ ms → k < length ms → x ≡ get_or cs k x → ReadsOn domains s (read_variables cs x) t → ReadsOn domains t sv u → IsInDomains domains vs → HasRead (box_in domains) vs [] s → HasRead (box_in domains) vs (read_variables ms (get_or ms k d) ++ sv) u
read_all domains vs cs ms k x d s t u sv e l at f g in_domains start =
    let is : x ≡ get_or ms k d = at_any ms k x x d l (subst (λ (zs : List Constraint). x ≡ get_or zs k x) e at) in
    let same : read_variables cs x ≡ read_variables ms (get_or ms k d) = ap (λ (zs : List Constraint). read_variables zs x) e ∙ ap (λ (y : Constraint). read_variables ms y) is in
    subst (λ (ys : List ℕ). HasRead (box_in domains) vs (ys ++ sv) u) same (reads_then domains s t u (read_variables cs x) sv f g vs [] in_domains start)

-- ---- the values of a variable

-- at first all values are left
pub all_left : (domains : List Window) (d : Window) (v : ℕ) (x : ℤ) → contains d ≡ box_in domains v → box_in domains v x ≡ true → is_among (intervals d) x ≡ true
unfolding contains
all_left domains d v x e i = subst (λ (b : ℤ → Bool). b x ≡ true) (sym e) i

entered_by : (p : ℤ × ℤ) (rest : List (ℤ × ℤ)) (x : ℤ) → (within x p ≡ true) ⊎ (is_among rest x ≡ true) → (is_among rest x ≡ true) ⊎ ((p.0 ≤ℤ x) × (x <ℤ (p.1 +ℤ pos 1)))
entered_by p rest x (inl w) =
    let low = within_low x p w in
    let high = within_high x p w in
    inr (low, omega (arith, ints))
entered_by p rest x (inr r) = inl r

-- of the interval at a place all values are left
pub entered : (ps : List (ℤ × ℤ)) (k : ℕ) (p : ℤ × ℤ) (x : ℤ) → k < length ps → is_among (drop k ps) x ≡ true → (is_among (drop (k + 1) ps) x ≡ true) ⊎ (((get_or ps k p).0 ≤ℤ x) × (x <ℤ ((get_or ps k p).1 +ℤ pos 1)))
entered ps k p x l e = entered_by (get_or ps k p) (drop (k + 1) ps) x (or_cases (within x (get_or ps k p)) (is_among (drop (k + 1) ps) x) (subst (λ (qs : List (ℤ × ℤ)). is_among qs x ≡ true) (drop_more ps k p l) e))

passed_by : (x value : ℤ) → (x ≡ value → ⊥) → value ≤ℤ x → (value +ℤ pos 1) ≤ℤ x
passed_by x value none l = by_lt_z x (value +ℤ pos 1) (λ less. absurd (none (omega (arith, ints)))) (λ more. omega (arith, ints))

-- a value is passed that none has
pub passed : (A : Type 0) (x value end : ℤ) → (x ≡ value → ⊥) → A ⊎ ((value ≤ℤ x) × (x <ℤ end)) → A ⊎ (((value +ℤ pos 1) ≤ℤ x) × (x <ℤ end))
passed A x value end none (inl a) = inl a
passed A x value end none (inr h) = inr (passed_by x value none h.0, h.1)

-- at the end of the interval those behind it are left
pub behind : (A : Type 0) (x value end : ℤ) → end ≤ℤ value → A ⊎ ((value ≤ℤ x) × (x <ℤ end)) → A
behind A x value end over (inl a) = a
behind A x value end over (inr h) =
    let low = h.0 in
    let high = h.1 in
    absurd (omega (arith, ints))

-- at the end of the list none is left
pub none_left : (ps : List (ℤ × ℤ)) (k : ℕ) (x : ℤ) → length ps ≤ k → is_among (drop k ps) x ≡ true → ⊥
none_left ps k x l e =
    let n : is_among [] x ≡ true = subst (λ (qs : List (ℤ × ℤ)). is_among qs x ≡ true) (drop_all k ps l) e in
    cc

-- a value with which nothing is reached is had by none that is
pub not_had : (box : Box) (Good : List ℤ → Type 0) (v : ℕ) (others : List ℕ) (old current : List ℤ) (x : ℤ) → length current ≡ length old → v < length current → ((u : ℕ) → (Contains (v ∷ others) u → ⊥) → variable_value current u ≡ variable_value old u) → (CanReach box others Good (set current v x) → ⊥) → (r : CanReach box (v ∷ others) Good old) → variable_value r.assignment v ≡ x → ⊥
not_had box Good v others old current x long within same none r e =
    none (subst (λ (y : ℤ). CanReach box others Good (set current v y)) e (reach_at box Good v others old current long within same r))

-- ---- what the code sees of an interval

module _ (d : Window) (ps : List (ℤ × ℤ)) (k : ℕ) (p : ℤ × ℤ) (is : IsDomain d) (e : ps ≡ intervals d) (l : k < length ps) where
  interval : IsIntervalAbove (negsuc (2 ^ 62 - 1)) (get_or ps k p)
  interval = rising_at (negsuc (2 ^ 62 - 1)) ps k p (subst (λ (qs : List (ℤ × ℤ)). RisesFrom (negsuc (2 ^ 62 - 1)) qs) (sym e) is.rising) l

  low_fits : FitsSigned w64 (get_or ps k p).0
  low_fits = let i = interval in let a = i.above in let b = i.ordered in let c = i.below in fits_signed_from_abs w64 (get_or ps k p).0 (omega (arith, ints))

  high_fits : FitsSigned w64 (get_or ps k p).1
  high_fits = let i = interval in let a = i.above in let b = i.ordered in let c = i.below in fits_signed_from_abs w64 (get_or ps k p).1 (omega (arith, ints))

  next_fits : FitsSigned w64 ((get_or ps k p).1 +ℤ pos 1)
  next_fits = let i = interval in let a = i.above in let b = i.ordered in let c = i.below in fits_signed_from_abs w64 ((get_or ps k p).1 +ℤ pos 1) (omega (arith, ints))

  pub low_bits : to_z w64 (of_z w64 (get_or ps k p).0) ≡ (get_or ps k p).0
  low_bits = to_z-of_z w64 (get_or ps k p).0 low_fits

  pub high_bits : to_z w64 (of_z w64 (get_or ps k p).1) ≡ (get_or ps k p).1
  high_bits = to_z-of_z w64 (get_or ps k p).1 high_fits

  pub end_fits : FitsSigned w64 (to_z w64 (of_z w64 (get_or ps k p).1) +ℤ pos 1)
  end_fits = rw high_bits next_fits

  pub end_bits : to_z w64 (of_z w64 (to_z w64 (of_z w64 (get_or ps k p).1) +ℤ pos 1)) ≡ (get_or ps k p).1 +ℤ pos 1
  end_bits = rw high_bits (to_z-of_z w64 ((get_or ps k p).1 +ℤ pos 1) next_fits)

  pub after_bits : (x : ℤ) → (get_or ps k p).0 ≤ℤ x → x <ℤ ((get_or ps k p).1 +ℤ pos 1) → to_z w64 (of_z w64 (x +ℤ pos 1)) ≡ x +ℤ pos 1
  after_bits x low high = let i = interval in let a = i.above in let b = i.ordered in let c = i.below in to_z-of_z w64 (x +ℤ pos 1) (fits_signed_from_abs w64 (x +ℤ pos 1) (omega (arith, ints)))

-- ---- with the first of the unfixed variables

module _ (box : Box) (Good : List ℤ → Type 0) (v : ℕ) (others unfixed : List ℕ) (e : unfixed ≡ v ∷ others) (old : List ℤ) where
  pub first_in : Contains unfixed v
  first_in = subst (λ (us : List ℕ). Contains us v) (sym e) (0, omega arith, refl)

  to_front : CanReach box unfixed Good old → CanReach box (v ∷ others) Good old
  to_front r = record {
    assignment = r.assignment;
    reached = subst (λ (us : List ℕ). IsReached box us old r.assignment) e r.reached;
    good = r.good;
  }

  same_front : (current : List ℤ) → ((u : ℕ) → (Contains unfixed u → ⊥) → variable_value current u ≡ variable_value old u) → (u : ℕ) → (Contains (v ∷ others) u → ⊥) → variable_value current u ≡ variable_value old u
  same_front current same u n = same u (λ k. n (subst (λ (us : List ℕ). Contains us u) e k))

  pub tried : (current : List ℤ) (x : ℤ) → length current ≡ length old → v < length current → ((u : ℕ) → (Contains unfixed u → ⊥) → variable_value current u ≡ variable_value old u) → (CanReach box others Good (set current v x) → ⊥) → (r : CanReach box unfixed Good old) → variable_value r.assignment v ≡ x → ⊥
  unfolding to_front
  tried current x long inside same none r is =
      not_had box Good v others old current x long inside (same_front current same) none (to_front r) is

  pub reached_more : (current : List ℤ) (x : ℤ) → length current ≡ length old → v < length current → ((u : ℕ) → (Contains unfixed u → ⊥) → variable_value current u ≡ variable_value old u) → box v x ≡ true → CanReach box others Good (set current v x) → CanReach box unfixed Good old
  reached_more current x long within same i r =
      subst (λ (us : List ℕ). CanReach box us Good old) (sym e) (reach_more box Good v others old current long within (same_front current same) x i r)

  behind_in : (u : ℕ) → Contains others u → Contains unfixed u
  behind_in u k = subst (λ (us : List ℕ). Contains us u) (sym e) (Contains-append_right (v ∷ []) others u k)

  pub same_after : (current new : List ℤ) (x : ℤ) → ((u : ℕ) → (Contains unfixed u → ⊥) → variable_value current u ≡ variable_value old u) → ((u : ℕ) → (Contains others u → ⊥) → variable_value new u ≡ variable_value (set current v x) u) → (u : ℕ) → (Contains unfixed u → ⊥) → variable_value new u ≡ variable_value old u
  same_after current new x same called u n =
      called u (λ k. n (behind_in u k)) ∙ get_or-set_other current v u x (pos 0) (λ eq. n (subst (λ (w : ℕ). Contains unfixed w) (sym eq) first_in)) ∙ same u n

pub here_either : (box : Box) (Good : List ℤ → Type 0) (a : List ℤ) (unfixed : List ℕ) (b : Bool) → length unfixed ≡ 0 → (b ≡ true → Good a) × (Good a → b ≡ true) → (b ≡ true → CanReach box unfixed Good a) × (CanReach box unfixed Good a → b ≡ true)
here_either box Good a [] b l h = ((λ t. reach_here box Good a (h.0 t)), λ r. h.1 (here_reached box Good a r))
here_either box Good a (x ∷ xs) b l h = absurd (omega arith)

pub first_named : (n v : ℕ) (others unfixed : List ℕ) → unfixed ≡ v ∷ others → All (λ u. u < n) unfixed → v < n
first_named n v others unfixed e all = subst (λ (us : List ℕ). All (λ u. u < n) us) e all 0 v (omega arith)

pub others_named : (n v : ℕ) (others unfixed : List ℕ) → unfixed ≡ v ∷ others → All (λ u. u < n) unfixed → All (λ u. u < n) others
others_named n v others unfixed e all k d l = subst (λ (us : List ℕ). All (λ u. u < n) us) e all (suc k) d (omega arith)

pub if_ok : {X E : Type 0} {P Q : X → Type 0} (r : Result X E) → ((x : X) → P x → Q x) → IfOk r P → IfOk r Q
if_ok (Ok x) f p = f x p
if_ok (Err e) f p = p

value_at : (domains : List Window) (d : Window) (v : ℕ) (ps : List (ℤ × ℤ)) (k : ℕ) (x : ℤ) → contains d ≡ box_in domains v → ps ≡ intervals d → k < length ps → (get_or ps k (pos 0, pos 0)).0 ≤ℤ x → x <ℤ ((get_or ps k (pos 0, pos 0)).1 +ℤ pos 1) → box_in domains v x ≡ true
unfolding contains
value_at domains d v ps k x same e l low high =
    let one : within x (get_or ps k (pos 0, pos 0)) ≡ true = is_within x (get_or ps k (pos 0, pos 0)) low (omega (arith, ints)) in
    let some : is_among ps x ≡ true = list_any_at (within x) ps k (pos 0, pos 0) l one in
    let there : is_among (intervals d) x ≡ true = subst (λ (qs : List (ℤ × ℤ)). is_among qs x ≡ true) e some in
    subst (λ (b : ℤ → Bool). b x ≡ true) same there

pub none_reached : {R : Type 0} (b : Bool) → b ≡ false → (R → b ≡ true) → R → ⊥
none_reached b unmet h r = let met = h r in cc

-- what is known of the value that is tried
pub record IsTried (domains : List Window) (n v : ℕ) (ps : List (ℤ × ℤ)) (k : ℕ) (x : ℤ) (old current : List ℤ) : Type 0 where
  pub next : to_z w64 (of_z w64 (x +ℤ pos 1)) ≡ x +ℤ pos 1
  pub left : box_in domains v x ≡ true
  pub below : v < n
  pub here : v < length current
  pub long : length current ≡ length old

pub is_tried : (domains : List Window) (m : CpModel) (v : ℕ) (others unfixed : List ℕ) (ps : List (ℤ × ℤ)) (k : ℕ) (x : ℤ) (old current : List ℤ) (r : Window) → unfixed ≡ v ∷ others → All (λ u. u < length m.variables) unfixed → length m.variables ≤ length domains → ps ≡ intervals (get_or domains v r) → IsDomain (get_or domains v r) → k < length ps → (get_or ps k (pos 0, pos 0)).0 ≤ℤ x → int_lt x (to_z w64 (of_z w64 (to_z w64 (of_z w64 (get_or ps k (pos 0, pos 0)).1) +ℤ pos 1))) ≡ true → are_within m.variables old ≡ true → are_within m.variables current ≡ true → IsTried domains (length m.variables) v ps k x old current
is_tried domains m v others unfixed ps k x old current r e named many list is_domain l low test valued within =
    let d = get_or domains v r in
    let below = first_named (length m.variables) v others unfixed e named in
    let inside : v < length domains = omega arith in
    let same = box_is domains v v d inside refl (at_any domains v d r d inside refl) in
    let end = end_bits d ps k (pos 0, pos 0) is_domain list l in
    let high : x <ℤ ((get_or ps k (pos 0, pos 0)).1 +ℤ pos 1) = omega (arith, ints, test, end) in
    let long_old = length-are_within m.variables old valued in
    let long_now = length-are_within m.variables current within in
    record {
      next = after_bits d ps k (pos 0, pos 0) is_domain list l x low high;
      left = value_at domains d v ps k x same list l low high;
      below = below;
      here = omega arith;
      long = long_now ∙ sym long_old;
    }

-- ---- the answer

pub some_item : {X : Type 0} (xs : List X) (k : ℕ) → k < length xs → X
some_item [] k l = absurd (omega arith)
some_item (x ∷ xs) k l = x

module _ (m : CpModel) (sums : List LinearExpr) (clause : List Atom) (c : Constraint) (domains : List Window) (is : IsBoxOf m sums clause domains) where
  abbrev read : List ℕ
  read = read_variables m.constraints c ++ sum_variables m.variables sums clause

  abbrev Read : Assignments → Type 0
  Read s = HasRead (box_in domains) m.variables read s

  too_much : IsTooMuch (box_in domains) (length m.variables) read → IsRefutedByAll m sums clause c → ⊥
  too_much t = too_much_to_try m sums clause c (box_in domains) (λ k h. t.many [] k (subst (λ (xs : List ℕ). HasAssignments (box_in domains) xs 0 (length m.variables) k) (sym (append-nil read)) (counted_same _ (box_in domains) read 0 (length m.variables) k (λ s x. sym (is.same s x)) h)))

  refused_by : (s : Assignments) → most_assignments < s.count → IsRead (box_in domains) (length m.variables) read s.values.items s.unfixed.items s.count ⊎ ((most_assignments < s.count) × IsTooMuch (box_in domains) (length m.variables) read) → (false ≡ true → IsRefutedByAll m sums clause c) × (IsRefutedByAll m sums clause c → false ≡ true)
  refused_by s over (inl h) = let few = h.few in absurd (omega arith)
  refused_by s over (inr h) = ((λ e. cc), λ r. absurd (too_much h.1 r))

  pub refused : (s : Assignments) → most_assignments < s.count → Read s → (false ≡ true → IsRefutedByAll m sums clause c) × (IsRefutedByAll m sums clause c → false ≡ true)
  refused s over h = refused_by s over h.state

  named_by : (s : Assignments) → s.count ≤ most_assignments → IsRead (box_in domains) (length m.variables) read s.values.items s.unfixed.items s.count ⊎ ((most_assignments < s.count) × IsTooMuch (box_in domains) (length m.variables) read) → All (λ v. v < length m.variables) s.unfixed.items
  named_by s few (inl h) k d l = h.within (get_or s.unfixed.items k d) (Contains-get_or s.unfixed.items k d l)
  named_by s few (inr h) k d l = let over = h.0 in absurd (omega arith)

  pub named : (s : Assignments) → s.count ≤ most_assignments → Read s → All (λ v. v < length m.variables) s.unfixed.items
  named s few h = named_by s few h.state

  abbrev Good : List ℤ → Type 0
  Good a = IsGood m sums clause (box_in domains) c a

  turned : (b : Bool) (s : Assignments) → IsValid m → IsClauseOver (length domains) clause → length s.values.items ≡ length m.variables → IsRead (box_in domains) (length m.variables) read s.values.items s.unfixed.items s.count → (b ≡ true → CanReach (box_in domains) s.unfixed.items Good s.values.items) × (CanReach (box_in domains) s.unfixed.items Good s.values.items → b ≡ true) → (not b ≡ true → IsRefutedByAll m sums clause c) × (IsRefutedByAll m sums clause c → not b ≡ true)
  turned true s valid over long h can = ((λ e. cc), λ r. absurd (reached_not_refuted m sums clause c domains is (parts_of m valid).variables s.values.items s.unfixed.items s.count long h (can.0 refl) r))
  turned false s valid over long h can =
      let over_all : IsClauseOver (subject_count m.variables sums) clause = subst (λ (n : ℕ). IsClauseOver n clause) is.many over in
      ((λ e. not_reached_refuted m sums clause c domains is (parts_of m valid).variables s.values.items s.unfixed.items s.count long h over_all (λ r. (let t = can.1 r in cc))), λ r. refl)

  decided_by : (b : Bool) (s : Assignments) → IsValid m → IsClauseOver (length domains) clause → s.count ≤ most_assignments → length s.values.items ≡ length m.variables → IsRead (box_in domains) (length m.variables) read s.values.items s.unfixed.items s.count ⊎ ((most_assignments < s.count) × IsTooMuch (box_in domains) (length m.variables) read) → (b ≡ true → CanReach (box_in domains) s.unfixed.items Good s.values.items) × (CanReach (box_in domains) s.unfixed.items Good s.values.items → b ≡ true) → (not b ≡ true → IsRefutedByAll m sums clause c) × (IsRefutedByAll m sums clause c → not b ≡ true)
  decided_by b s valid over few long (inl h) can = turned b s valid over long h can
  decided_by b s valid over few long (inr h) can = let more = h.0 in absurd (omega arith)

  pub decided : (b : Bool) (s : Assignments) → IsValid m → IsClauseOver (length domains) clause → s.count ≤ most_assignments → Read s → (b ≡ true → CanReach (box_in domains) s.unfixed.items Good s.values.items) × (CanReach (box_in domains) s.unfixed.items Good s.values.items → b ≡ true) → (not b ≡ true → IsRefutedByAll m sums clause c) × (IsRefutedByAll m sums clause c → not b ≡ true)
  decided b s valid over few h can = decided_by b s valid over few (length-are_within m.variables s.values.items h.valued) h.state can

  pub decided_over : (us : List ℕ) (a : List ℤ) (b : Bool) (s : Assignments) → us ≡ s.unfixed.items → a ≡ s.values.items → IsValid m → IsClauseOver (length domains) clause → s.count ≤ most_assignments → Read s → (b ≡ true → CanReach (box_in domains) us Good a) × (CanReach (box_in domains) us Good a → b ≡ true) → (not b ≡ true → IsRefutedByAll m sums clause c) × (IsRefutedByAll m sums clause c → not b ≡ true)
  decided_over us a b s e f valid over few h can =
      let values = subst (λ (z : List ℤ). (b ≡ true → CanReach (box_in domains) us Good z) × (CanReach (box_in domains) us Good z → b ≡ true)) f can in
      decided b s valid over few h (subst (λ (ws : List ℕ). (b ≡ true → CanReach (box_in domains) ws Good s.values.items) × (CanReach (box_in domains) ws Good s.values.items → b ≡ true)) e values)
