-- The load of a cumulative constraint is the level of its changes, and what it is at their times decides.
use Rattle.std.specs.Prelude.{All, ◌↔◌, unsigned_abs, int_le, int_lt, ◌&&◌, if◌then◌else◌, Some, None}
use Rattle.std.specs.List.{cons_option}
use Rattle.std.proofs.Common.{◌≡◌, ◌⊎◌, inl, inr, ℕ, zero, suc, ◌+◌, ◌*◌, ◌<◌, ◌≤◌, ◌^◌, ℤ, pos, negsuc, neg_ℤ, ◌+ℤ◌, ◌≤ℤ◌, ◌<ℤ◌, Bool, true, false, List, [], ◌∷◌, ◌++◌, length, drop, get_or, refl, sym, ◌∙◌, ap, ap₂, subst, arith, append_assoc, add-one}
use Rattle.std.proofs.lemmas.Int.{ints, by_lt_z}
use Rattle.std.proofs.lemmas.Bool.{cases_lt}
use Rattle.std.proofs.lemmas.List.{drop_more, get_or_default}
use Rattle.std.proofs.lemmas.List.Folds.{list_all-append}
use borrow.Author.Tests.{ltb-true}
use Rattle.cps_model.specs.declared.model.LinearExpr.{LinearExpr}
use Rattle.cps_model.specs.declared.constraint.Constraint.{Constraint}
use Rattle.cps_model.specs.declared.parts.Event.{Event}
use Rattle.cps_model.specs.declared.parts.Use.{Use}
use Rattle.cps_model.specs.Values.{expression_value}
use Rattle.cps_model.specs.Scheduling.{run_at, use_of, uses, runs_at, load_at, IsCumulative}
use Rattle.cps_model.specs.Reservoirs.{level_at, IsReservoir}
use Rattle.cps_model.proofs.Inside.{unsigned_abs-neg}
use Rattle.cps_model.proofs.Pairs.{All-from_test}
use Rattle.cps_model.proofs.Sums.{unsigned_abs-add}
use Rattle.cps_model.proofs.Tests.{and_true, both_true}
use Rattle.cps_eval.specs.Levels.{has_small_change, have_small_changes, has_small_demand, have_small_demands, load_changes, no_event, time_at}
use Rattle.cps_eval.proofs.ActiveEvents.{small-more}

-- one use more
uses-drop : (cs : List Constraint) (a is : List ℤ) (ds : List LinearExpr) (k : ℕ) (d : LinearExpr) → k < length is → k < length ds → uses cs a (drop k is) (drop k ds) ≡ cons_option (use_of (run_at cs a (get_or is k (pos 0))) (expression_value a (get_or ds k d))) (uses cs a (drop (k + 1) is) (drop (k + 1) ds))
uses-drop cs a is ds k d p q = rw (drop_more is k (pos 0), drop_more ds k d) refl

pub uses-more : (cs : List Constraint) (a is : List ℤ) (ds : List LinearExpr) (k : ℕ) (d : LinearExpr) (this : Use) (done whole : List Use) → k < length is → k < length ds → d ≡ get_or ds k d → use_of (run_at cs a (get_or is k (pos 0))) (expression_value a d) ≡ Some this → done ++ uses cs a (drop k is) (drop k ds) ≡ whole → (done ++ this ∷ []) ++ uses cs a (drop (k + 1) is) (drop (k + 1) ds) ≡ whole
uses-more cs a is ds k d this done whole p q ed e h =
    let rest = uses cs a (drop (k + 1) is) (drop (k + 1) ds) in
    let all = uses-drop cs a is ds k d p q in
    let step : uses cs a (drop k is) (drop k ds) ≡ this ∷ rest = all ∙ rw (← ed) (ap (λ o. cons_option o rest) e) in
    append_assoc done (this ∷ []) rest ∙ ap (λ (us : List Use). done ++ us) (sym step) ∙ h

pub uses-less : (cs : List Constraint) (a is : List ℤ) (ds : List LinearExpr) (k : ℕ) (d : LinearExpr) (done whole : List Use) → k < length is → k < length ds → d ≡ get_or ds k d → use_of (run_at cs a (get_or is k (pos 0))) (expression_value a d) ≡ None → done ++ uses cs a (drop k is) (drop k ds) ≡ whole → done ++ uses cs a (drop (k + 1) is) (drop (k + 1) ds) ≡ whole
uses-less cs a is ds k d done whole p q ed e h =
    let rest = uses cs a (drop (k + 1) is) (drop (k + 1) ds) in
    let step : uses cs a (drop k is) (drop k ds) ≡ rest = uses-drop cs a is ds k d p q ∙ rw (← ed) (ap (λ o. cons_option o rest) e) in
    ap (λ (us : List Use). done ++ us) (sym step) ∙ h

pub small_demand-more : (us : List Use) (u : Use) → have_small_demands us ≡ true → has_small_demand u ≡ true → have_small_demands (us ++ u ∷ []) ≡ true
small_demand-more us u h this = list_all-append has_small_demand us (u ∷ []) ∙ both_true _ _ h (both_true _ _ this refl)

-- one use more as two changes
abbrev pub no_use : Use
no_use = record { start = pos 0; end = pos 0; demand = pos 0 }

abbrev pub beginning : Use → Event
beginning u = record { time = u.start; change = u.demand }

abbrev pub ending : Use → Event
ending u = record { time = u.end; change = neg_ℤ u.demand }

runs_forward : (u : Use) (us : List Use) → u.start <ℤ u.end → load_changes (u ∷ us) ≡ beginning u ∷ ending u ∷ load_changes us
runs_forward u us up = let test : int_lt u.start u.end ≡ true = grind (arith, ints) in rw test refl

runs_backward : (u : Use) (us : List Use) → u.end ≤ℤ u.start → load_changes (u ∷ us) ≡ load_changes us
runs_backward u us down = let test : int_lt u.start u.end ≡ false = grind (arith, ints) in rw test refl

pub changes-more : (us : List Use) (k : ℕ) (done whole : List Event) (b e : Event) → k < length us → (get_or us k no_use).start <ℤ (get_or us k no_use).end → b ≡ beginning (get_or us k no_use) → e ≡ ending (get_or us k no_use) → done ++ load_changes (drop k us) ≡ whole → ((done ++ b ∷ []) ++ e ∷ []) ++ load_changes (drop (k + 1) us) ≡ whole
changes-more us k done whole b e l up eb ee h =
    let u = get_or us k no_use in
    let rest = load_changes (drop (k + 1) us) in
    let step : load_changes (drop k us) ≡ b ∷ e ∷ rest = ap load_changes (drop_more us k no_use l) ∙ runs_forward u (drop (k + 1) us) up ∙ rw (eb, ee) refl in
    append_assoc (done ++ b ∷ []) (e ∷ []) rest ∙ append_assoc done (b ∷ []) (e ∷ rest) ∙ ap (λ (es : List Event). done ++ es) (sym step) ∙ h

pub changes-less : (us : List Use) (k : ℕ) (done whole : List Event) → k < length us → (get_or us k no_use).end ≤ℤ (get_or us k no_use).start → done ++ load_changes (drop k us) ≡ whole → done ++ load_changes (drop (k + 1) us) ≡ whole
changes-less us k done whole l down h =
    let u = get_or us k no_use in
    let step : load_changes (drop k us) ≡ load_changes (drop (k + 1) us) = ap load_changes (drop_more us k no_use l) ∙ runs_backward u (drop (k + 1) us) down in
    ap (λ (es : List Event). done ++ es) (sym step) ∙ h

pub changes-small : (us : List Use) (k : ℕ) (es : List Event) (b e : Event) → k < length us → have_small_demands us ≡ true → b ≡ beginning (get_or us k no_use) → e ≡ ending (get_or us k no_use) → have_small_changes es ≡ true → have_small_changes ((es ++ b ∷ []) ++ e ∷ []) ≡ true
changes-small us k es b e l small eb ee h =
    let u = get_or us k no_use in
    let this : has_small_demand u ≡ true = All-from_test has_small_demand us small k no_use l in
    let first : has_small_change b ≡ true = rw eb this in
    let second : has_small_change e ≡ true = rw (ee, unsigned_abs-neg u.demand) this in
    small-more (es ++ b ∷ []) e (small-more es b h first) second

-- what a use counts at a time is what its changes count
one_use : (t : ℤ) (u : Use) → u.start <ℤ u.end → (if runs_at t u then u.demand else pos 0) ≡ (if int_le u.start t then u.demand else pos 0) +ℤ (if int_le u.end t then neg_ℤ u.demand else pos 0)
one_use t u up = by_lt_z t u.start
    (λ before.
    (let first : int_le u.start t ≡ false = grind (arith, ints) in
    let second : int_le u.end t ≡ false = grind (arith, ints) in
    rw (first, second) refl))
    (λ begun. by_lt_z t u.end
    (λ during.
    (let first : int_le u.start t ≡ true = grind (arith, ints) in
    let second : int_le u.end t ≡ false = grind (arith, ints) in
    let third : int_lt t u.end ≡ true = grind (arith, ints) in
    rw (first, second, third) (omega (arith, ints))))
    (λ after.
    (let first : int_le u.start t ≡ true = grind (arith, ints) in
    let second : int_le u.end t ≡ true = grind (arith, ints) in
    let third : int_lt t u.end ≡ false = grind (arith, ints) in
    rw (first, second, third) (omega (arith, ints)))))

never_runs : (t : ℤ) (u : Use) → u.end ≤ℤ u.start → runs_at t u ≡ false
never_runs t u down = by_lt_z t u.start
    (λ before. (let first : int_le u.start t ≡ false = grind (arith, ints) in rw first refl))
    (λ begun. (let second : int_lt t u.end ≡ false = grind (arith, ints) in rw second (and_false (int_le u.start t))))
  where
    and_false : (b : Bool) → (b && false) ≡ false
    and_false true = refl
    and_false false = refl

two_terms : (x a b r s : ℤ) → x ≡ a +ℤ b → r ≡ s → x +ℤ r ≡ a +ℤ (b +ℤ s)
two_terms x a b r s p q = omega (arith, ints)

no_term : (r s : ℤ) → r ≡ s → pos 0 +ℤ r ≡ s
no_term r s p = omega (arith, ints)

pub load_is_level : (t : ℤ) (us : List Use) → load_at t us ≡ level_at t (load_changes us)
load_is_level t [] = refl
load_is_level t (u ∷ us) =
    let rest = load_is_level t us in
    by_lt_z u.start u.end
    (λ up. two_terms _ _ _ _ _ (one_use t u up) rest ∙ ap (level_at t) (sym (runs_forward u us up)))
    (λ down. rw (never_runs t u down) (no_term _ _ rest) ∙ ap (level_at t) (sym (runs_backward u us down)))

-- two times at which the same events count have the same level
level_same : (t s : ℤ) (es : List Event) → All (λ e. int_le e.time t ≡ int_le e.time s) es → level_at t es ≡ level_at s es
level_same t s [] h = refl
level_same t s (e ∷ es) h =
    ap₂ (λ (x y : ℤ). x +ℤ y) (ap (λ (b : Bool). if b then e.change else pos 0) (h 0 no_event (omega arith))) (level_same t s es (λ k d l. h (suc k) d (omega arith)))

-- the latest of the first n times that are at most t, if there is one
data Latest (es : List Event) (t : ℤ) (n : ℕ) : Type 0 where
  none_yet : ((j : ℕ) → j < n → t <ℤ time_at es j) → Latest es t n
  latest : (k : ℕ) → k < n → time_at es k ≤ℤ t → ((j : ℕ) → j < n → time_at es j ≤ℤ t → time_at es j ≤ℤ time_at es k) → Latest es t n

below_last : (P : ℕ → Type 0) (n : ℕ) → ((j : ℕ) → j < n → P j) → P n → (j : ℕ) → j < n + 1 → P j
below_last P n h this j l = elim (cases_lt j n) [
  | inl before ↦ h j before
  | inr at ↦ (let same : j ≡ n = omega arith in subst P (sym same) this)
]

later_of : (es : List Event) (t : ℤ) (n : ℕ) → Latest es t n → Latest es t (n + 1)
later_of es t n (none_yet h) = by_lt_z t (time_at es n)
    (λ after. none_yet (below_last (λ j. t <ℤ time_at es j) n h after))
    (λ before. latest n (omega arith) before (below_last (λ j. time_at es j ≤ℤ t → time_at es j ≤ℤ time_at es n) n
    (λ j l up. (let far = h j l in absurd (omega (arith, ints)))) (λ up. omega (arith, ints))))
later_of es t n (latest k l low h) = by_lt_z t (time_at es n)
    (λ after. latest k (omega arith) low (below_last (λ j. time_at es j ≤ℤ t → time_at es j ≤ℤ time_at es k) n h (λ up. absurd (omega (arith, ints)))))
    (λ before. by_lt_z (time_at es k) (time_at es n)
    (λ later. latest n (omega arith) before (below_last (λ j. time_at es j ≤ℤ t → time_at es j ≤ℤ time_at es n) n
    (λ j m up. (let at = h j m up in omega (arith, ints))) (λ up. omega (arith, ints))))
    (λ sooner. latest k (omega arith) low (below_last (λ j. time_at es j ≤ℤ t → time_at es j ≤ℤ time_at es k) n h (λ up. sooner))))

latest_of : (es : List Event) (t : ℤ) (n : ℕ) → Latest es t n
latest_of es t zero = none_yet (λ j l. absurd (omega arith))
latest_of es t (suc n) = subst (Latest es t) (add-one n) (later_of es t n (latest_of es t n))

level_of_none : (t : ℤ) (es : List Event) → All (λ e. int_le e.time t ≡ false) es → level_at t es ≡ pos 0
level_of_none t [] h = refl
level_of_none t (e ∷ es) h =
    rw (h 0 no_event (omega arith)) (no_term _ _ (level_of_none t es (λ k d l. h (suc k) d (omega arith))))

at_any : (es : List Event) (t : ℤ) → Latest es t (length es) → (level_at t es ≡ pos 0) ⊎ ((k : ℕ) × (k < length es) × (level_at t es ≡ level_at (time_at es k) es))
at_any es t (none_yet h) =
    inl (level_of_none t es (λ j d l. subst (λ (e : Event). int_le e.time t ≡ false) (get_or_default es j no_event d l) (is_after (time_at es j) t (h j l))))
  where
    is_after : (x t : ℤ) → t <ℤ x → int_le x t ≡ false
    is_after x t h = grind (arith, ints)
at_any es t (latest k l low h) =
    inr (k, l, level_same t (time_at es k) es (λ j d m. subst (λ (e : Event). int_le e.time t ≡ int_le e.time (time_at es k)) (get_or_default es j no_event d m) (same_side (time_at es j) t (time_at es k) low (h j m))))
  where
    same_side : (x t s : ℤ) → s ≤ℤ t → (x ≤ℤ t → x ≤ℤ s) → int_le x t ≡ int_le x s
    same_side x t s low h = by_lt_z t x
        (λ after. (let p : int_le x t ≡ false = grind (arith, ints) in let q : int_le x s ≡ false = grind (arith, ints) in p ∙ sym q))
        (λ before. (let up = h before in let p : int_le x t ≡ true = grind (arith, ints) in let q : int_le x s ≡ true = grind (arith, ints) in p ∙ sym q))

-- how far a level is from 0
level_far : (t : ℤ) (es : List Event) → have_small_changes es ≡ true → unsigned_abs (level_at t es) ≤ length es * 2 ^ 62
level_far t [] h = omega arith
level_far t (e ∷ es) h =
    let both = and_true (has_small_change e) (have_small_changes es) h in
    let rest = level_far t es both.1 in
    let this : unsigned_abs (if int_le e.time t then e.change else pos 0) ≤ 2 ^ 62 = counted_far (int_le e.time t) e.change (ltb-true _ _ both.0) in
    let sum = unsigned_abs-add (if int_le e.time t then e.change else pos 0) (level_at t es) in
    omega arith
  where
    counted_far : (b : Bool) (z : ℤ) → unsigned_abs z < 2 ^ 62 → unsigned_abs (if b then z else pos 0) ≤ 2 ^ 62
    counted_far true z h = omega arith
    counted_far false z h = omega arith

above_lowest : (z : ℤ) (n : ℕ) → n < 2 ^ 64 → unsigned_abs z ≤ n * 2 ^ 62 → negsuc 170141183460469231731687303715884105727 ≤ℤ z
above_lowest (pos z) n few h = omega (arith, ints)
above_lowest (negsuc z) n few h = omega (arith, ints)

-- what the load is as its changes come decides
pub cumulative_by_changes : (capacity : ℤ) (us : List Use) (es : List Event) → es ≡ load_changes us → have_small_changes es ≡ true → length es < 2 ^ 64 → pos 0 ≤ℤ capacity → IsReservoir (negsuc 170141183460469231731687303715884105727) capacity es ↔ IsCumulative capacity us
cumulative_by_changes capacity us es is small few room = (
  λ h. record { some_room = room; enough = λ t. rw (load_is_level t us, ← is) (at_most t h (at_any es t (latest_of es t (length es)))) },
  λ h k d l.
      (let t = (get_or es k d).time in
      let low = above_lowest (level_at t es) (length es) few (level_far t es small) in
      let high = h.enough t in
      (low, subst (λ (z : ℤ). z ≤ℤ capacity) (load_is_level t us ∙ ap (level_at t) (sym is)) high)),
)
  where
    at_most : (t : ℤ) → IsReservoir (negsuc 170141183460469231731687303715884105727) capacity es → (level_at t es ≡ pos 0) ⊎ ((k : ℕ) × (k < length es) × (level_at t es ≡ level_at (time_at es k) es)) → level_at t es ≤ℤ capacity
    at_most t h (inl e) = rw e room
    at_most t h (inr (k, l, e)) = rw e (h k no_event l).1
