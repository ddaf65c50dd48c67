-- The level that events make at a time: it does not depend on the order of the events, and of events in order of time it is
-- what those up to that time add up to.
use Rattle.std.specs.Prelude.{All, IsPermutation, unsigned_abs, int_le, int_lt, nat_le, ◌||◌, sum_by, if◌then◌else◌}
use Rattle.std.proofs.Common.{◌≡◌, ◌⊎◌, inl, inr, ℕ, zero, suc, ◌+◌, ◌-◌, ◌*◌, ◌<◌, ◌≤◌, ◌^◌, ℤ, pos, negsuc, ◌+ℤ◌, ◌≤ℤ◌, ◌<ℤ◌, Bool, true, false, List, [], ◌∷◌, ◌++◌, length, take, drop, get_or, refl, sym, ◌∙◌, ap, ap₂, subst, arith, get_or-take, get_or-drop, length-drop}
use Rattle.std.proofs.lemmas.Int.{ints, by_lt_z}
use Rattle.std.proofs.lemmas.Bool.{cases_lt}
use Rattle.std.proofs.lemmas.List.{take_more, get_or_default, take-append-drop, length-take-le}
use Rattle.std.proofs.lemmas.List.Elements.{All-weaker}
use Rattle.std.proofs.lemmas.List.Sorted.{All-permutation, sum_by-IsPermutation, sorted_far, ranks_by}
use Rattle.std.proofs.lemmas.List.Sums.{sum_by-cons}
use Rattle.std.proofs.lemmas.Cmp.{int_cmp_total}
use Rattle.std.specs.List.Sorted.{IsSortedByKey}
use Rattle.std.specs.Ordering.{int_cmp, is_lt}
use Rattle.cps_model.specs.declared.parts.Event.{Event}
use Rattle.cps_model.specs.Reservoirs.{level_at, IsReservoir}
use borrow.Author.Tests.{ltb-true}
use Rattle.cps_model.proofs.Sums.{unsigned_abs-add}
use Rattle.cps_model.proofs.Pairs.{All-from_test, test_from_All}
use Rattle.cps_eval.specs.Levels.{AreInOrder, has_small_change, have_small_changes, no_event, time_at, is_last_of_time}

-- what a sort by time ensures
pub order_from_sort : (es : List Event) → IsSortedByKey (λ (e : Event). e.time) int_cmp es → AreInOrder es
order_from_sort es sorted i j d l m = not_less (get_or es i d).time (get_or es j d).time (sorted_far _ (ranks_by int_cmp_total (λ (e : Event). e.time)) es sorted i j d l m)
  where
    not_less : (x y : ℤ) → is_lt (int_cmp y x) ≡ false → x ≤ℤ y
    not_less x y h = grind (arith, ints)

int_le_from : (x y : ℤ) → x ≤ℤ y → int_le x y ≡ true
int_le_from x y h = grind (arith, ints)

int_le_not : (x y : ℤ) → y <ℤ x → int_le x y ≡ false
int_le_not x y h = grind (arith, ints)

-- what an event counts at a time
abbrev counted : ℤ → Event → ℤ
counted t e = if int_le e.time t then e.change else pos 0

-- a number as what it adds and what it takes away
abbrev gain : ℤ → ℕ
gain (pos n) = n
gain (negsuc n) = 0

abbrev loss : ℤ → ℕ
loss (pos n) = 0
loss (negsuc n) = suc n

gain_and_loss : (z : ℤ) → z +ℤ pos (loss z) ≡ pos (gain z)
gain_and_loss (pos n) = omega (arith, ints)
gain_and_loss (negsuc n) = omega (arith, ints)

parts_add : (c level : ℤ) (l g ls gs : ℕ) → c +ℤ pos l ≡ pos g → level +ℤ pos ls ≡ pos gs → (c +ℤ level) +ℤ pos (l + ls) ≡ pos (g + gs)
parts_add c level l g ls gs one rest = omega (arith, ints)

level_parts : (t : ℤ) (es : List Event) → level_at t es +ℤ pos (sum_by (λ e. loss (counted t e)) es) ≡ pos (sum_by (λ e. gain (counted t e)) es)
level_parts t [] = refl
level_parts t (e ∷ es) =
    simp (sum_by-cons (λ e. loss (counted t e)), sum_by-cons (λ e. gain (counted t e)))
    (parts_add (counted t e) (level_at t es) (loss (counted t e)) (gain (counted t e)) _ _ (gain_and_loss (counted t e)) (level_parts t es))

-- the order of the events does not matter
pub level_permuted : (t : ℤ) (xs ys : List Event) → IsPermutation xs ys → level_at t ys ≡ level_at t xs
level_permuted t xs ys moved =
    let gains = sum_by-IsPermutation (λ e. gain (counted t e)) xs ys moved in
    let losses = sum_by-IsPermutation (λ e. loss (counted t e)) xs ys moved in
    let before = level_parts t xs in
    let after = level_parts t ys in
    omega (arith, ints)

abbrev pub Within : ℤ → ℤ → ℤ → Type 0
Within least greatest level = (least ≤ℤ level) × (level ≤ℤ greatest)

pub reservoir_permuted : (least greatest : ℤ) (xs ys : List Event) → IsPermutation xs ys → IsReservoir least greatest xs → IsReservoir least greatest ys
reservoir_permuted least greatest xs ys moved h =
    All-weaker (λ e. Within least greatest (level_at e.time xs)) (λ e. Within least greatest (level_at e.time ys))
    (λ e w. subst (Within least greatest) (sym (level_permuted e.time xs ys moved)) w) ys
    (All-permutation (λ e. Within least greatest (level_at e.time xs)) xs ys moved h)

pub small_changes_permuted : (xs ys : List Event) → IsPermutation xs ys → have_small_changes xs ≡ true → have_small_changes ys ≡ true
small_changes_permuted xs ys moved h =
    test_from_All has_small_change ys (All-permutation (λ e. has_small_change e ≡ true) xs ys moved (All-from_test has_small_change xs h))

level_append : (t : ℤ) (xs ys : List Event) → level_at t (xs ++ ys) ≡ level_at t xs +ℤ level_at t ys
level_append t [] ys = omega (arith, ints)
level_append t (x ∷ xs) ys = let rest = level_append t xs ys in omega (arith, ints)

-- what all events add up to
abbrev pub total : List Event → ℤ
total [] = pos 0
total (e ∷ es) = e.change +ℤ total es

total_append : (xs ys : List Event) → total (xs ++ ys) ≡ total xs +ℤ total ys
total_append [] ys = omega (arith, ints)
total_append (x ∷ xs) ys = let rest = total_append xs ys in omega (arith, ints)

pub total_more : (es : List Event) (k : ℕ) (d : Event) → k < length es → total (take (k + 1) es) ≡ total (take k es) +ℤ (get_or es k d).change
total_more es k d l = ap total (take_more es k d l) ∙ total_append (take k es) (get_or es k d ∷ []) ∙ omega (arith, ints)

level_of_past : (t : ℤ) (es : List Event) → All (λ e. e.time ≤ℤ t) es → level_at t es ≡ total es
level_of_past t [] h = refl
level_of_past t (e ∷ es) h =
    let this = int_le_from e.time t (h 0 no_event (omega arith)) in
    rw this (ap (λ (z : ℤ). e.change +ℤ z) (level_of_past t es (λ k d l. h (suc k) d (omega arith))))

level_of_future : (t : ℤ) (es : List Event) → All (λ e. t <ℤ e.time) es → level_at t es ≡ pos 0
level_of_future t [] h = refl
level_of_future t (e ∷ es) h =
    let this = int_le_not e.time t (h 0 no_event (omega arith)) in
    let rest = level_of_future t es (λ k d l. h (suc k) d (omega arith)) in
    rw this (omega (arith, ints))

or_cases : (a b : Bool) → (a || b) ≡ true → (a ≡ true) ⊎ (b ≡ true)
or_cases true b e = inl refl
or_cases false b e = inr e

or_last : (b : Bool) → (b || true) ≡ true
or_last true = refl
or_last false = refl

-- the next event, if there is one, is later
next_is_later : (es : List Event) (k : ℕ) → is_last_of_time es k ≡ true → k + 1 < length es → time_at es k <ℤ time_at es (k + 1)
next_is_later es k e l = elim (or_cases (nat_le (length es) (k + 1)) (int_lt (time_at es k) (time_at es (k + 1))) e) [
  | inl past ↦ absurd (grind arith)
  | inr up ↦ grind (arith, ints)
]

-- after the last event of a time, the sum so far is the level at that time
pub level_after_last : (es : List Event) (k : ℕ) → AreInOrder es → k < length es → is_last_of_time es k ≡ true → level_at (time_at es k) es ≡ total (take (k + 1) es)
level_after_last es k order l last =
    let t = time_at es k in
    let front = take (k + 1) es in
    let back = drop (k + 1) es in
    let here = λ (d : Event). get_or_default es k d no_event l in
    let size = length-take-le (k + 1) es (omega arith) in
    let past : All (λ e. e.time ≤ℤ t) front = λ i d m.
    (let lt : i < k + 1 = omega arith in
    subst (λ (e : Event). e.time ≤ℤ t) (sym (get_or-take (k + 1) es i d lt))
    (subst (λ (u : Event). (get_or es i d).time ≤ℤ u.time) (here d) (order i k d (omega arith) l))) in
    let future : All (λ e. t <ℤ e.time) back = λ i d m.
    (let room = length-drop (k + 1) es in
    let inside : k + 1 + i < length es = omega arith in
    let up = next_is_later es k last (omega arith) in
    let far = order (k + 1) (k + 1 + i) no_event (omega arith) inside in
    subst (λ (e : Event). t <ℤ e.time) (sym (get_or-drop (k + 1) es i d ∙ get_or_default es (k + 1 + i) d no_event inside)) (omega (arith, ints))) in
    ap (level_at t) (sym (take-append-drop (k + 1) es)) ∙ level_append t front back
    ∙ ap₂ (λ (x y : ℤ). x +ℤ y) (level_of_past t front past) (level_of_future t back future)
    ∙ omega (arith, ints)

-- the last event that has the time of the one at i
record LastOf (es : List Event) (i : ℕ) : Type 0 where
  at : ℕ
  inside : at < length es
  last : is_last_of_time es at ≡ true
  same : time_at es at ≡ time_at es i

last_of : (es : List Event) (room i : ℕ) → AreInOrder es → i + suc room ≡ length es → LastOf es i
last_of es zero i order e = record { at = i; inside = omega arith; last = last_at_end es i (omega arith); same = refl }
  where
    last_at_end : (es : List Event) (i : ℕ) → length es ≤ i + 1 → is_last_of_time es i ≡ true
    last_at_end es i h = grind arith
last_of es (suc room) i order e = elim (cases_le_int (time_at es i) (time_at es (i + 1)) (order i (i + 1) no_event (omega arith) (omega arith))) [
  | inl same ↦ (let next = last_of es room (i + 1) order (omega arith) in record { at = next.at; inside = next.inside; last = next.last; same = next.same ∙ sym same })
  | inr up ↦ record { at = i; inside = omega arith; last = last_before es i up; same = refl }
]
  where
    cases_le_int : (x y : ℤ) → x ≤ℤ y → (x ≡ y) ⊎ (x <ℤ y)
    cases_le_int x y h = by_lt_z x y (λ l. inr l) (λ g. inl (omega (arith, ints)))

    last_before : (es : List Event) (i : ℕ) → time_at es i <ℤ time_at es (i + 1) → is_last_of_time es i ≡ true
    last_before es i up = let later : int_lt (time_at es i) (time_at es (i + 1)) ≡ true = grind (arith, ints) in rw later (or_last (nat_le (length es) (i + 1)))

-- the level after the last event of each time so far lies between two others
abbrev pub LieBetween : List Event → ℤ → ℤ → ℕ → Type 0
LieBetween es least greatest k = (j : ℕ) → j < k → is_last_of_time es j ≡ true → Within least greatest (level_at (time_at es j) es)

pub all_lie_between : (es : List Event) (least greatest : ℤ) → AreInOrder es → LieBetween es least greatest (length es) → IsReservoir least greatest es
all_lie_between es least greatest order h i d l =
    let last = last_of es (length es - (i + 1)) i order (omega arith) in
    let level = h last.at last.inside last.last in
    subst (λ (e : Event). Within least greatest (level_at e.time es)) (get_or_default es i no_event d l)
    (subst (λ (t : ℤ). Within least greatest (level_at t es)) last.same level)

pub one_lies_outside : (es : List Event) (least greatest level : ℤ) (k : ℕ) → k < length es → level_at (time_at es k) es ≡ level → ¬ Within least greatest level → ¬ IsReservoir least greatest es
one_lies_outside es least greatest level k l is out h = out (subst (Within least greatest) is (h k no_event l))

pub lie_between_more : (es : List Event) (least greatest : ℤ) (k : ℕ) → LieBetween es least greatest k → (is_last_of_time es k ≡ true → Within least greatest (level_at (time_at es k) es)) → LieBetween es least greatest (k + 1)
lie_between_more es least greatest k h this j l e = elim (cases_lt j k) [
  | inl before ↦ h j before e
  | inr at ↦
      let same : j ≡ k = omega arith in
      subst (λ (i : ℕ). Within least greatest (level_at (time_at es i) es)) (sym same) (this (subst (λ (i : ℕ). is_last_of_time es i ≡ true) same e))
]

-- the sum after one event more, and how far it is from 0
pub sum_more : (es : List Event) (k : ℕ) (sum next : ℤ) → k < length es → next ≡ sum +ℤ (get_or es k no_event).change → sum ≡ total (take k es) → next ≡ total (take (k + 1) es)
sum_more es k sum next l step before = step ∙ ap (λ (x : ℤ). x +ℤ (get_or es k no_event).change) before ∙ sym (total_more es k no_event l)

pub near_more : (k : ℕ) (sum change next : ℤ) → next ≡ sum +ℤ change → unsigned_abs sum ≤ k * 2 ^ 62 → unsigned_abs change < 2 ^ 62 → unsigned_abs next ≤ (k + 1) * 2 ^ 62
near_more k sum change next step near small =
    let both = unsigned_abs-add sum change in
    let same = ap unsigned_abs step in
    omega arith

pub small_change : (es : List Event) (k : ℕ) → have_small_changes es ≡ true → k < length es → unsigned_abs (get_or es k no_event).change < 2 ^ 62
small_change es k small l = ltb-true _ _ (All-from_test has_small_change es small k no_event l)
