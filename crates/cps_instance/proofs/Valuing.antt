-- What bodies are made of where subjects have the values of expressions.
use Rattle.std.specs.Prelude.{All, map, slice_get, if◌then◌else◌, Option, Some, None}
use Rattle.std.specs.List.{AllZip, list_all}
use Rattle.std.proofs.Common.{◌≡◌, ℕ, zero, suc, ◌<◌, true, List, [], ◌∷◌, ◌++◌, take, drop, length, get_or, refl, ◌∙◌, ap, arith, ℤ, pos, negsuc, ◌+ℤ◌}
use Rattle.std.proofs.lemmas.Int.{ints}
use Rattle.std.proofs.lemmas.List.Elements.{All-head, All-tail}
use Rattle.cps_model.specs.declared.model.LinearExpr.{LinearExpr}
use Rattle.cps_model.specs.declared.constraint.Constraint.{Constraint}
use Rattle.cps_model.specs.declared.constraint.Kind.{Kind}
use Rattle.cps_model.specs.declared.constraint.Kind.TheVariants as kinds
use Rattle.cps_model.specs.Values.{reference_value, expression_value, literal_holds, literals_hold}
use Rattle.cps_model.specs.Meaning.{values_of, reference_values}
use Rattle.cps_model.specs.Scheduling.{run_of, present_run, run_at, runs, use_of, uses, area_of, areas}
use Rattle.cps_model.specs.Reservoirs.{event_of, all_events, active_events, events}
use Rattle.cps_model.specs.Rules.{names}
use Rattle.cps_model.specs.KindRules.{is_interval, is_some_interval, names_interval}
use Rattle.cps_model.proofs.Tests.{and_true}
use Rattle.cps_literal.specs.Truth.{value_at, atom_holds}
use Rattle.cps_instance.specs.declared.task.Span.{Span}
use Rattle.cps_instance.specs.Lengths.{length_between}
use Rattle.cps_instance.specs.Parts.{values_at, span_end, span_run, span_runs, span_uses, span_areas, change_at, all_changes, true_changes, changes_at}
use Rattle.cps_instance.specs.Posting.{atom_of, expressions_of, span_of, span_of_constraint, span_at}
use Rattle.cps_model.specs.Values.{reference_expression}
use Rattle.cps_instance.proofs.Agreeing.{same_run, more_items, same_use, same_area, more_events, one_event, same_event}
use Rattle.cps_instance.proofs.Lengths.{length_between-is}
use Rattle.cps_instance.proofs.LiteralAtoms.{atom_holds-at, list_all-at}

-- zipped lists: as long as each other, and in two parts
pub zip_length : {A B : Type 0} (R : A → B → Type 0) (xs : List A) (ys : List B) → AllZip R xs ys → length ys ≡ length xs
zip_length R [] [] h = refl
zip_length R [] (y ∷ ys) h = absurd h
zip_length R (x ∷ xs) [] h = absurd h
zip_length R (x ∷ xs) (y ∷ ys) h = ap suc (zip_length R xs ys h.1)

pub zip_take : {A B : Type 0} (R : A → B → Type 0) (xs xs' : List A) (ys : List B) → AllZip R (xs ++ xs') ys → AllZip R xs (take (length xs) ys)
zip_take R [] xs' ys h = tt
zip_take R (x ∷ xs) xs' [] h = absurd h
zip_take R (x ∷ xs) xs' (y ∷ ys) h = (h.0, zip_take R xs xs' ys h.1)

pub zip_drop : {A B : Type 0} (R : A → B → Type 0) (xs xs' : List A) (ys : List B) → AllZip R (xs ++ xs') ys → AllZip R xs' (drop (length xs) ys)
zip_drop R [] xs' ys h = h
zip_drop R (x ∷ xs) xs' [] h = absurd h
zip_drop R (x ∷ xs) xs' (y ∷ ys) h = zip_drop R xs xs' ys h.1

-- a subject has an expression's value
abbrev pub IsWorth : List ℤ → List ℤ → LinearExpr → ℕ → Type 0
IsWorth xs a e i = value_at xs i ≡ expression_value a e

abbrev pub AreWorth : List ℤ → List ℤ → List LinearExpr → List ℕ → Type 0
AreWorth xs a es is = AllZip (IsWorth xs a) es is

one_value : (v w : ℤ) (vs ws : List ℤ) → v ≡ w → vs ≡ ws → v ∷ vs ≡ w ∷ ws
one_value v w vs ws e f = cc

module _ (xs a : List ℤ) where
  pub values_are : (es : List LinearExpr) (is : List ℕ) → AreWorth xs a es is → values_at xs is ≡ values_of a es
  values_are [] [] h = refl
  values_are [] (i ∷ is) h = absurd h
  values_are (e ∷ es) [] h = absurd h
  values_are (e ∷ es) (i ∷ is) h = one_value (value_at xs i) (expression_value a e) (values_at xs is) (values_of a es) h.0 (values_are es is h.1)

  pub first_is : (e : LinearExpr) (es : List LinearExpr) (is : List ℕ) → AreWorth xs a (e ∷ es) is → value_at xs (get_or is 0 0) ≡ expression_value a e
  first_is e es [] h = absurd h
  first_is e es (i ∷ is) h = h.0

  pub second_is : (d e : LinearExpr) (es : List LinearExpr) (is : List ℕ) → AreWorth xs a (d ∷ e ∷ es) is → value_at xs (get_or is 1 0) ≡ expression_value a e
  second_is d e es [] h = absurd h
  second_is d e es (i ∷ is) h = first_is e es is h.1

  pub third_is : (c d e : LinearExpr) (es : List LinearExpr) (is : List ℕ) → AreWorth xs a (c ∷ d ∷ e ∷ es) is → value_at xs (get_or is 2 0) ≡ expression_value a e
  third_is c d e es [] h = absurd h
  third_is c d e es (i ∷ is) h = second_is d e es is h.1

  pub after_first : (e : LinearExpr) (es : List LinearExpr) (is : List ℕ) → AreWorth xs a (e ∷ es) is → AreWorth xs a es (drop 1 is)
  after_first e es [] h = absurd h
  after_first e es (i ∷ is) h = h.1

  pub after_second : (d e : LinearExpr) (es : List LinearExpr) (is : List ℕ) → AreWorth xs a (d ∷ e ∷ es) is → AreWorth xs a es (drop 2 is)
  after_second d e es [] h = absurd h
  after_second d e es (i ∷ is) h = after_first e es is h.1

  all_changes-are : (ts cs : List LinearExpr) (is js : List ℕ) → AreWorth xs a ts is → AreWorth xs a cs js → all_changes xs is js ≡ all_events a ts cs
  all_changes-are [] cs [] js h k = refl
  all_changes-are [] cs (i ∷ is) js h k = absurd h
  all_changes-are (t ∷ ts) cs [] js h k = absurd h
  all_changes-are (t ∷ ts) [] (i ∷ is) [] h k = refl
  all_changes-are (t ∷ ts) [] (i ∷ is) (j ∷ js) h k = absurd k
  all_changes-are (t ∷ ts) (c ∷ cs) (i ∷ is) [] h k = absurd k
  all_changes-are (t ∷ ts) (c ∷ cs) (i ∷ is) (j ∷ js) h k =
      one_event (change_at xs i j) (event_of a t c) (all_changes xs is js) (all_events a ts cs)
      (same_event (value_at xs i) (expression_value a t) (value_at xs j) (expression_value a c) h.0 k.0)
      (all_changes-are ts cs is js h.1 k.1)

-- references as expressions
reference_is : (a : List ℤ) (r : ℤ) → expression_value a (reference_expression r) ≡ reference_value a r
reference_is a r = omega (arith, ints)

pub references_are : (a rs : List ℤ) → values_of a (map reference_expression rs) ≡ reference_values a rs
references_are a [] = refl
references_are a (r ∷ rs) = one_value (expression_value a (reference_expression r)) (reference_value a r) (values_of a (map reference_expression rs)) (reference_values a rs) (reference_is a r) (references_are a rs)

module _ (n : ℕ) (xs a : List ℤ) (agree : (i : ℕ) → i < n → value_at xs i ≡ value_at a i) where
  true_changes-are : (ts cs : List LinearExpr) (is js : List ℕ) (ls : List ℤ) → AreWorth xs a ts is → AreWorth xs a cs js → list_all (names n) ls ≡ true → true_changes xs is js (map atom_of ls) ≡ active_events a ts cs ls
  true_changes-are [] cs [] js ls h k l = refl
  true_changes-are [] cs (i ∷ is) js ls h k l = absurd h
  true_changes-are (t ∷ ts) cs [] js ls h k l = absurd h
  true_changes-are (t ∷ ts) [] (i ∷ is) [] ls h k l = refl
  true_changes-are (t ∷ ts) [] (i ∷ is) (j ∷ js) ls h k l = absurd k
  true_changes-are (t ∷ ts) (c ∷ cs) (i ∷ is) [] ls h k l = absurd k
  true_changes-are (t ∷ ts) (c ∷ cs) (i ∷ is) (j ∷ js) [] h k l = refl
  true_changes-are (t ∷ ts) (c ∷ cs) (i ∷ is) (j ∷ js) (r ∷ ls) h k l =
      let named = and_true (names n r) (list_all (names n) ls) l in
      more_events (atom_holds xs (atom_of r)) (literal_holds a r) (change_at xs i j) (event_of a t c) (true_changes xs is js (map atom_of ls)) (active_events a ts cs ls)
      (atom_holds-at n xs a agree r named.0)
      (same_event (value_at xs i) (expression_value a t) (value_at xs j) (expression_value a c) h.0 k.0)
      (true_changes-are ts cs is js ls h.1 k.1 named.1)

  pub changes_are : (ts cs : List LinearExpr) (is js : List ℕ) (ls : List ℤ) → AreWorth xs a ts is → AreWorth xs a cs js → list_all (names n) ls ≡ true → changes_at xs is js (map atom_of ls) ≡ events a ts cs ls
  changes_are ts cs is js [] h k l = all_changes-are xs a ts cs is js h k
  changes_are ts cs is js (r ∷ ls) h k l = true_changes-are ts cs is js (r ∷ ls) h k l

  -- a span runs as its interval does
  end_is : (start end : LinearExpr) (i j : ℕ) (far : Option ℤ) → length_between start end ≡ far → IsWorth xs a start i → IsWorth xs a end j → span_end xs i j far ≡ expression_value a end
  end_is start end i j None e h k = k
  end_is start end i j (Some far) e h k = ap (λ (v : ℤ). v +ℤ far) h ∙ length_between-is a start end far e

  span_is : (is : List ℕ) (enforcement : List ℤ) (k : Kind) → is_interval k ≡ true → AreWorth xs a (expressions_of k) is → list_all (names n) enforcement ≡ true
      → span_run xs (span_of is enforcement k) ≡ (if literals_hold a enforcement then run_of a k else None)
  span_is is enforcement (kinds.Interval start end size) h v l =
      let first = first_is xs a start (end ∷ size ∷ []) is v in
      let second = second_is xs a start end (size ∷ []) is v in
      same_run (list_all (atom_holds xs) (map atom_of enforcement)) (literals_hold a enforcement) (value_at xs (get_or is 0 0)) (expression_value a start) (span_end xs (get_or is 0 0) (get_or is 1 0) (length_between start end)) (expression_value a end)
      (list_all-at n xs a agree enforcement l) first (end_is start end (get_or is 0 0) (get_or is 1 0) (length_between start end) refl first second)
  span_is is enforcement k h v l = cc

  span_in : (cs : List Constraint) (lists : List (List ℕ)) (i : ℕ) → AllZip (λ c is. AreWorth xs a (expressions_of c.kind) is) cs lists → All (λ c. list_all (names n) c.enforcement ≡ true) cs → is_some_interval (slice_get cs i) ≡ true
      → span_run xs (span_of_constraint (get_or lists i []) (slice_get cs i)) ≡ present_run a (slice_get cs i)
  span_in [] lists i h l some = cc
  span_in (c ∷ cs) [] i h l some = absurd h
  span_in (c ∷ cs) (is ∷ lists) zero h l some = span_is is c.enforcement c.kind some h.0 (All-head (λ c. list_all (names n) c.enforcement ≡ true) c cs l)
  span_in (c ∷ cs) (is ∷ lists) (suc i) h l some = span_in cs lists i h.1 (All-tail (λ c. list_all (names n) c.enforcement ≡ true) c cs l) some

  pub spans_are : (cs : List Constraint) (lists : List (List ℕ)) → AllZip (λ c is. AreWorth xs a (expressions_of c.kind) is) cs lists → All (λ c. list_all (names n) c.enforcement ≡ true) cs
      → (i : ℤ) → names_interval cs i ≡ true → span_run xs (span_at cs lists i) ≡ run_at cs a i
  spans_are cs lists h l (pos i) some = span_in cs lists i h l some
  spans_are cs lists h l (negsuc i) some = cc

-- lists of spans run as their intervals do
module _ (cs : List Constraint) (xs a : List ℤ) (span : ℤ → Span) (are : (i : ℤ) → names_interval cs i ≡ true → span_run xs (span i) ≡ run_at cs a i) where
  pub runs_are : (is : List ℤ) → list_all (names_interval cs) is ≡ true → span_runs xs (map span is) ≡ runs cs a is
  runs_are [] h = refl
  runs_are (i ∷ is) h =
      let named = and_true (names_interval cs i) (list_all (names_interval cs) is) h in
      more_items (span_run xs (span i)) (run_at cs a i) (span_runs xs (map span is)) (runs cs a is) (are i named.0) (runs_are is named.1)

  pub uses_are : (is : List ℤ) (ds : List LinearExpr) (js : List ℕ) → list_all (names_interval cs) is ≡ true → AreWorth xs a ds js → span_uses xs (map span is) js ≡ uses cs a is ds
  uses_are [] ds js h k = refl
  uses_are (i ∷ is) [] [] h k = refl
  uses_are (i ∷ is) [] (j ∷ js) h k = absurd k
  uses_are (i ∷ is) (d ∷ ds) [] h k = absurd k
  uses_are (i ∷ is) (d ∷ ds) (j ∷ js) h k =
      let named = and_true (names_interval cs i) (list_all (names_interval cs) is) h in
      more_items (use_of (span_run xs (span i)) (value_at xs j)) (use_of (run_at cs a i) (expression_value a d)) (span_uses xs (map span is) js) (uses cs a is ds)
      (same_use (span_run xs (span i)) (run_at cs a i) (value_at xs j) (expression_value a d) (are i named.0) k.0)
      (uses_are is ds js named.1 k.1)

  pub areas_are : (is js : List ℤ) → list_all (names_interval cs) is ≡ true → list_all (names_interval cs) js ≡ true → span_areas xs (map span is) (map span js) ≡ areas cs a is js
  areas_are [] js h k = refl
  areas_are (i ∷ is) [] h k = refl
  areas_are (i ∷ is) (j ∷ js) h k =
      let x = and_true (names_interval cs i) (list_all (names_interval cs) is) h in
      let y = and_true (names_interval cs j) (list_all (names_interval cs) js) k in
      more_items (area_of (span_run xs (span i)) (span_run xs (span j))) (area_of (run_at cs a i) (run_at cs a j)) (span_areas xs (map span is) (map span js)) (areas cs a is js)
      (same_area (span_run xs (span i)) (run_at cs a i) (span_run xs (span j)) (run_at cs a j) (are i x.0) (are j y.0))
      (areas_are is js x.1 y.1)
