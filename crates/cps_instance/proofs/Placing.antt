-- Items of zipped lists, and the constraint that an interval index names.
use Rattle.std.specs.Prelude.{slice_get, Option, Some, unsigned_abs}
use Rattle.std.specs.List.{AllZip}
use Rattle.std.proofs.Common.{◌≡◌, ℕ, zero, suc, ◌+◌, ◌<◌, true, List, [], ◌∷◌, ◌++◌, length, take, get_or, refl, sym, ◌∙◌, ap, subst, arith, ℤ, pos, negsuc}
use Rattle.std.proofs.Math.Numerals.{add-one}
use Rattle.cps_model.specs.declared.constraint.Constraint.{Constraint}
use Rattle.cps_model.specs.declared.constraint.Kind.{Kind}
use Rattle.cps_model.specs.declared.constraint.Kind.TheVariants as kinds
use Rattle.cps_model.specs.declared.model.LinearExpr.{LinearExpr}
use Rattle.cps_model.specs.KindRules.{is_interval, is_some_interval, names_interval}
use Rattle.cps_instance.specs.declared.task.Span.{Span}
use Rattle.cps_instance.specs.Posting.{expressions_of, span_of, span_of_constraint, span_at, task_of, tasks_with}

-- items at the same place of zipped lists belong together
pub zip_at : {A B : Type 0} (R : A → B → Type 0) (xs : List A) (ys : List B) → AllZip R xs ys → (k : ℕ) (x : A) (y : B) → k < length xs → x ≡ get_or xs k x → y ≡ get_or ys k y → R x y
zip_at R [] [] h k x y l e f = absurd (omega arith)
zip_at R [] (z ∷ ys) h k x y l e f = absurd h
zip_at R (w ∷ xs) [] h k x y l e f = absurd h
zip_at R (w ∷ xs) (z ∷ ys) h zero x y l e f = subst (λ b. R x b) (sym f) (subst (λ a. R a z) (sym e) h.0)
zip_at R (w ∷ xs) (z ∷ ys) h (suc k) x y l e f = zip_at R xs ys h.1 k x y (omega arith) e f

-- an index of an interval constraint is the place of one
pub record IsNamed (cs : List Constraint) (i : ℤ) (place : ℕ) : Type 0 where
  pub is : i ≡ pos place
  pub within : place < length cs
  pub interval : is_some_interval (slice_get cs place) ≡ true

within_of : (cs : List Constraint) (k : ℕ) → is_some_interval (slice_get cs k) ≡ true → k < length cs
within_of [] k h = cc
within_of (c ∷ cs) zero h = omega arith
within_of (c ∷ cs) (suc k) h = let rest = within_of cs k h in omega arith

pub named_at : (cs : List Constraint) (i : ℤ) → names_interval cs i ≡ true → IsNamed cs i (unsigned_abs i)
named_at cs (pos k) h = record { is = refl; within = within_of cs k h; interval = h }
named_at cs (negsuc k) h = cc

-- the constraint at that place
pub get_is : {X : Type 0} (xs : List X) (k : ℕ) (x : X) → k < length xs → x ≡ get_or xs k x → slice_get xs k ≡ Some x
get_is [] k x l e = absurd (omega arith)
get_is (y ∷ xs) zero x l e = ap Some (sym e)
get_is (y ∷ xs) (suc k) x l e = get_is xs k x (omega arith) e

pub interval_at : (cs : List Constraint) (k : ℕ) (c : Constraint) → k < length cs → c ≡ get_or cs k c → is_some_interval (slice_get cs k) ≡ true → is_interval c.kind ≡ true
interval_at cs k c l e h = ap is_some_interval (sym (get_is cs k c l e)) ∙ h

-- it has three expressions
pub three_expressions : (k : Kind) → is_interval k ≡ true → length (expressions_of k) ≡ 3
three_expressions (kinds.Interval start end size) h = refl
three_expressions kind h = cc

-- an interval that is none of the others
pub is_one : (k : Kind) → is_interval k ≡ true → ((start end size : LinearExpr) → k ≡ kinds.Interval start end size → ⊥) → ⊥
is_one (kinds.Interval start end size) h none = none start end size refl
is_one kind h none = cc

same_item : {X : Type 0} (xs : List X) (k : ℕ) (d x : X) → k < length xs → x ≡ get_or xs k x → get_or xs k d ≡ x
same_item [] k d x l e = absurd (omega arith)
same_item (y ∷ xs) zero d x l e = sym e
same_item (y ∷ xs) (suc k) d x l e = same_item xs k d x (omega arith) e

-- the span at an index
pub span_is : (cs : List Constraint) (lists : List (List ℕ)) (i : ℤ) (k : ℕ) (c : Constraint) (is : List ℕ) → i ≡ pos k → k < length cs → k < length lists → c ≡ get_or cs k c → is ≡ get_or lists k is
    → span_of is c.enforcement c.kind ≡ span_at cs lists i
span_is cs lists i k c is at l m e f =
    sym (ap (λ (z : ℤ). span_at cs lists z) at
    ∙ ap (λ (o : Option Constraint). span_of_constraint (get_or lists k []) o) (get_is cs k c l e)
    ∙ ap (λ (js : List ℕ). span_of js c.enforcement c.kind) (same_item lists k [] is m f))

-- one more constraint with its subjects
pub tasks_with-more : (span : ℤ → Span) (cs : List Constraint) (lists : List (List ℕ)) (k : ℕ) (c : Constraint) (is : List ℕ) → k < length cs → k < length lists → c ≡ get_or cs k c → is ≡ get_or lists k is
    → tasks_with span (take (k + 1) cs) (take (k + 1) lists) ≡ tasks_with span (take k cs) (take k lists) ++ task_of span is c ∷ []
tasks_with-more span [] lists k c is l m e f = absurd (omega arith)
tasks_with-more span (d ∷ cs) [] k c is l m e f = absurd (omega arith)
tasks_with-more span (d ∷ cs) (js ∷ lists) zero c is l m e f = (ap (λ (x : Constraint). task_of span js x ∷ []) (sym e) ∙ ap (λ (ks : List ℕ). task_of span ks c ∷ []) (sym f))
tasks_with-more span (d ∷ cs) (js ∷ lists) (suc k) c is l m e f =
    let more = rw add-one at (tasks_with-more span cs lists k c is (omega arith) (omega arith) e f) in
    rw add-one (ap (λ ts. task_of span js d ∷ ts) more)
