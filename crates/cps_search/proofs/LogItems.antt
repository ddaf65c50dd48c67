-- The clause of an item of a log is true wherever the item says so, where the item's task gives the clause.
use Rattle.std.specs.Prelude.{All, IsSomeAnd, slice_get, nat_lt, ◌-◌, if◌then◌else◌, Option, None, Some, map, ◌-ℤ◌, ◌||◌}
use Rattle.std.specs.List.{AllZip, list_all, flat_map}
use Rattle.std.proofs.Common.{◌≡◌, ◌∙◌, inl, inr, ℕ, zero, suc, ◌+◌, ◌<◌, ◌≤◌, ℤ, pos, negsuc, neg_ℤ, ◌+ℤ◌, ◌*ℤ◌, ◌≤ℤ◌, ◌<ℤ◌, Bool, true, false, List, [], ◌∷◌, ◌++◌, length, get_or, refl, ap, sym, subst, arith, lt-ltb}
use Rattle.std.proofs.Math.ListN.{get_or-append, length-append}
use Rattle.std.proofs.lemmas.Int.{ints}
use Rattle.std.proofs.lemmas.Bool.{cases_lt}
use Rattle.std.proofs.lemmas.Bool.Decides.{nat_tests}
use Rattle.std.proofs.lemmas.List.{length-map, get_or-map}
use Rattle.std.proofs.lemmas.List.Elements.{All-nil, All-head, All-tail, All-weaker, All-get_or}
use borrow.Author.Tests.{ltb-true}
use Rattle.cps_model.specs.declared.bound.Bound.{Bound}
use Rattle.cps_model.specs.declared.bound.Bound.TheVariants.{At, Infinite}
use Rattle.cps_model.specs.declared.model.CpModel.{CpModel}
use Rattle.cps_model.specs.declared.model.LinearExpr.{LinearExpr}
use Rattle.cps_model.specs.declared.model.Objective.{Objective}
use Rattle.cps_model.specs.declared.model.Variable.{Variable}
use Rattle.cps_model.specs.declared.constraint.Constraint.{Constraint}
use Rattle.cps_model.specs.Values.{reference_value, sum_of, expression_value}
use Rattle.cps_model.specs.Ranges.{least_value, greatest_value}
use Rattle.cps_model.specs.Within.{is_within}
use Rattle.cps_model.specs.Rules.{names}
use Rattle.cps_model.specs.Validity.{objective_fault}
use Rattle.cps_model.specs.Solutions.{IsWithinDomains, objective_sum, objective_value}
use Rattle.cps_model.proofs.Inside.{length-are_within}
use Rattle.cps_model.proofs.Tests.{and_true}
use Rattle.cps_model.proofs.Faults.{parts_of, rule_kept}
use Rattle.cps_domain.specs.Window.{is_among, pairs_of}
use Rattle.cps_literal.specs.declared.atom.Atom.{Atom}
use Rattle.cps_literal.specs.Truth.{meets, value_at, atom_holds, clause_holds}
use Rattle.cps_instance.specs.declared.task.Span.{Span}
use Rattle.cps_instance.specs.declared.task.Task.{Task}
use Rattle.cps_instance.specs.Terms.{Domains, AreIntervals, domain_at, least_of, terms_value, term_subjects}
use Rattle.cps_instance.specs.Sums.{DefinedSum, sum_value, IsSumOf, AreSumsFrom, least_sum_of, greatest_sum_of, extended as with_sums}
use Rattle.cps_instance.specs.Tasks.{HoldsTask, lowered}
use Rattle.cps_instance.specs.Problem.{Problem, IsInstance, Means, variable_count, bounds_at, sum_task, sum_tasks}
use Rattle.cps_instance.specs.Posting.{subject_lists, expressions_of, span_at, tasks_with, constraint_tasks, objective_terms, list_task, cut_task, objective_tasks}
use Rattle.cps_instance.specs.Strategies.{first_of_constraints}
use Rattle.cps_instance.specs.Writing.{expression_sums}
use Rattle.cps_instance.proofs.Boundings.{among_pairs}
use Rattle.cps_instance.proofs.Extending.{value_at-extended, agree-extended}
use Rattle.cps_instance.proofs.Agreeing.{AgreeAt, terms_value-agree}
use Rattle.cps_instance.proofs.Summing.{terms_of-value}
use Rattle.cps_instance.proofs.Fits.{terms_subjects}
use Rattle.cps_instance.proofs.Intervals.{least_among}
use Rattle.cps_instance.proofs.Meaning.{is_list_task}
use Rattle.cps_instance.proofs.Solving.{extended_within, sums_hold}
use Rattle.cps_instance.proofs.Valuing.{zip_length}
use Rattle.cps_trail.specs.Trail.{IsWithin}
use Rattle.cps_trail.specs.Adds.{Follows}
use Rattle.cps_log.specs.declared.item.LogItem.{LogItem}
use Rattle.cps_log.specs.declared.item.LogItem.TheVariants as items
use Rattle.cps_log.specs.Subjects.{extended, variable_domain, sum_domain, subject_domains, subject_count, sum_at, IsAtomOver, IsClauseOver}
use Rattle.cps_log.specs.Deriving.{Derivation}
use Rattle.cps_log.specs.Runs.{AreValues, HoldsBySum, HoldsWhere, HoldsByConstraint, IsSought, IsTrueItem}
use Rattle.cps_port.specs.Order.{IsBelow}
use Rattle.cps_search.specs.Searches.{below_bound}
use Rattle.cps_search.specs.declared.log_items.TaskCounts.{TaskCounts}
use Rattle.cps_search.specs.LogItems.{IsUngrown, counts_of, item_of, IsGivenBy, AreVariableValues, AreSumsOf, HasItem}

-- ---- items of lists by place

zip_at : {A B : Type 0} (R : A → B → Type 0) (xs : List A) (ys : List B) (k : ℕ) (d : B) → AllZip R xs ys → k < length xs → IsSomeAnd (slice_get xs k) (λ x. R x (get_or ys k d))
zip_at R [] [] k d h l = absurd (omega arith)
zip_at R [] (y ∷ ys) k d h l = absurd h
zip_at R (x ∷ xs) [] k d h l = absurd h
zip_at R (x ∷ xs) (y ∷ ys) zero d h l = h.0
zip_at R (x ∷ xs) (y ∷ ys) (suc k) d h l = zip_at R xs ys k d h.1 (omega arith)

some_weaker : {A : Type 0} (P Q : A → Type 0) (o : Option A) → ((x : A) → P x → Q x) → IsSomeAnd o P → IsSomeAnd o Q
some_weaker P Q None f h = absurd h
some_weaker P Q (Some x) f h = f x h

some_here : {A : Type 0} (P : A → Type 0) (xs : List A) (k : ℕ) (d : A) → k < length xs → P (get_or xs k d) → IsSomeAnd (slice_get xs k) P
some_here P [] k d l h = absurd (omega arith)
some_here P (x ∷ xs) zero d l h = h
some_here P (x ∷ xs) (suc k) d l h = some_here P xs k d (omega arith) h

pub back_at : {A : Type 0} (xs ys : List A) (k j : ℕ) (d : A) → k ≡ length xs + j → get_or (xs ++ ys) k d ≡ get_or ys j d
back_at [] ys k j d e = ap (λ (i : ℕ). get_or ys i d) (let f : k ≡ j = omega arith in f)
back_at (x ∷ xs) ys zero j d e = absurd (omega arith)
back_at (x ∷ xs) ys (suc k) j d e = back_at xs ys k j d (omega arith)

two_at : {A : Type 0} (P : A → Type 0) (x y : A) (j : ℕ) (d : A) → j < 2 → P x → P y → P (get_or (x ∷ y ∷ []) j d)
two_at P x y zero d l p q = p
two_at P x y (suc zero) d l p q = q
two_at P x y (suc (suc j)) d l p q = absurd (omega arith)

bounded_at : (z : Bound) (ts : List Task) (k : ℕ) (d : Task) → k < length ts → get_or (map (below_bound z) ts) k d ≡ below_bound z (get_or ts k d)
bounded_at z [] k d l = absurd (omega arith)
bounded_at z (t ∷ ts) zero d l = refl
bounded_at z (t ∷ ts) (suc k) d l = bounded_at z ts k d (omega arith)

sum_task_at : (n : ℕ) (ss : List DefinedSum) (k : ℕ) (d : Task) (s : DefinedSum) → k < length ss → get_or (sum_tasks n ss) k d ≡ sum_task (n + k) (get_or ss k s)
sum_task_at n [] k d s l = absurd (omega arith)
sum_task_at n (r ∷ ss) zero d s l = ap (λ (i : ℕ). sum_task i r) (let e : n ≡ n + 0 = omega arith in e)
sum_task_at n (r ∷ ss) (suc k) d s l = sum_task_at (n + 1) ss k d s (omega arith) ∙ ap (λ (i : ℕ). sum_task i (get_or ss k s)) (let e : (n + 1) + k ≡ n + suc k = omega arith in e)

pub sum_of_at : (ds : Domains) (n : ℕ) (ss : List DefinedSum) (k : ℕ) (s : DefinedSum) → AreSumsFrom ds n ss → k < length ss → IsSumOf ds (n + k) (get_or ss k s)
sum_of_at ds n [] k s h l = absurd (omega arith)
sum_of_at ds n (r ∷ ss) zero s h l = subst (λ (i : ℕ). IsSumOf ds i r) (let e : n ≡ n + 0 = omega arith in e) h.0
sum_of_at ds n (r ∷ ss) (suc k) s h l = subst (λ (i : ℕ). IsSumOf ds i (get_or ss k s)) (let e : (n + 1) + k ≡ n + suc k = omega arith in e) (sum_of_at ds (n + 1) ss k s h.1 (omega arith))

pub length-sum_tasks : (n : ℕ) (ss : List DefinedSum) → length (sum_tasks n ss) ≡ length ss
length-sum_tasks n [] = refl
length-sum_tasks n (s ∷ ss) = ap suc (length-sum_tasks (n + 1) ss)

length-tasks_with : (span : ℤ → Span) (next : ℕ) (cs : List Constraint) → length (tasks_with span cs (subject_lists next cs)) ≡ length cs
length-tasks_with span next [] = refl
length-tasks_with span next (c ∷ cs) = ap suc (length-tasks_with span (next + length (flat_map expression_sums (expressions_of c.kind))) cs)

length-constraint_tasks : (next : ℕ) (cs : List Constraint) → length (constraint_tasks cs (subject_lists next cs)) ≡ length cs
length-constraint_tasks next cs = length-tasks_with (span_at cs (subject_lists next cs)) next cs

pub no_sum : DefinedSum
no_sum = record { terms = []; offset = pos 0 }

pub no_expression : LinearExpr
no_expression = record { vars = []; coeffs = []; offset = pos 0 }

-- ---- values that agree

abbrev Agree : ℕ → List ℤ → List ℤ → Type 0
Agree n xs ys = (i : ℕ) → i < n → value_at xs i ≡ value_at ys i

reference-agree : (n : ℕ) (xs ys : List ℤ) (r : ℤ) → Agree n xs ys → names n r ≡ true → reference_value xs r ≡ reference_value ys r
reference-agree n xs ys (pos i) f h = f i (ltb-true _ _ h)
reference-agree n xs ys (negsuc i) f h = ap neg_ℤ (f i (ltb-true _ _ h))

added : (a b c d : ℤ) → a ≡ b → c ≡ d → a +ℤ c ≡ b +ℤ d
added a b c d e f = cc

sum-agree : (n : ℕ) (xs ys rs cs : List ℤ) → Agree n xs ys → list_all (names n) rs ≡ true → sum_of xs rs cs ≡ sum_of ys rs cs
sum-agree n xs ys [] cs f h = refl
sum-agree n xs ys (r ∷ rs) [] f h = refl
sum-agree n xs ys (r ∷ rs) (c ∷ cs) f h =
    let both = and_true (names n r) (list_all (names n) rs) h in
    added _ _ _ _ (ap (λ (v : ℤ). c *ℤ v) (reference-agree n xs ys r f both.0)) (sum-agree n xs ys rs cs f both.1)

expression-agree : (n : ℕ) (xs ys : List ℤ) (e : LinearExpr) → Agree n xs ys → list_all (names n) e.vars ≡ true → expression_value xs e ≡ expression_value ys e
expression-agree n xs ys e f h = ap (λ (v : ℤ). v +ℤ e.offset) (sum-agree n xs ys e.vars e.coeffs f h)

clause-agree : (n : ℕ) (xs ys : List ℤ) (clause : List Atom) → Agree n xs ys → IsClauseOver n clause → clause_holds clause xs ≡ clause_holds clause ys
clause-agree n xs ys [] f h = refl
clause-agree n xs ys (t ∷ ts) f h =
    let place = (All-head (IsAtomOver n) t ts h).subject in
    ap (λ (b : Bool). b || clause_holds ts xs) (ap (λ (v : ℤ). meets t.op t.value v) (f t.subject (omega arith)))
    ∙ ap (λ (b : Bool). atom_holds ys t || b) (clause-agree n xs ys ts f (All-tail (IsAtomOver n) t ts h))

-- ---- an assignment with the values of the sums

variables_among : (p : Problem) (a : List ℤ) → IsInstance p → IsWithinDomains p.model a → AreVariableValues p (with_sums p.defs a)
variables_among p a h w i l = extended_within p a h w i (let count = h.domains.count in omega arith)

-- the task of a sum says what its subject is worth
sum_at_place : (p : Problem) (a : List ℤ) (k : ℕ) → IsInstance p → IsWithinDomains p.model a → k < length p.defs → value_at (with_sums p.defs a) (variable_count p + k) ≡ sum_value (with_sums p.defs a) (get_or p.defs k no_sum)
sum_at_place p a k h w l =
    let n = variable_count p in
    let xs = with_sums p.defs a in
    let long = length-are_within p.model.variables a w in
    let all = sums_hold p.domains n p.defs a long h.domains.sums in
    let size = length-sum_tasks n p.defs in
    let t = sum_task (n + k) (get_or p.defs k no_sum) in
    let here = All-get_or (λ u. HoldsTask u xs) (sum_tasks n p.defs) k t (omega arith) all in
    let holds : HoldsTask t xs = subst (λ u. HoldsTask u xs) (sum_task_at n p.defs k t no_sum l) here in
    holds refl

-- the subjects of a log have the values that the instance's have
module _ (p : Problem) (sums : List LinearExpr) (h : IsInstance p) (are : AreSumsOf p sums) where
  log-agree : (a : List ℤ) → IsWithinDomains p.model a → Agree (subject_count p.model.variables sums) (with_sums p.defs a) (extended sums a)
  log-agree a w i l =
      let n = variable_count p in
      let xs = with_sums p.defs a in
      let long = length-are_within p.model.variables a w in
      elim (cases_lt i n) [
        | inl below ↦ value_at-extended p.defs a i (omega arith) ∙ sym (get_or-append a (map (expression_value a) sums) (pos 0) i (omega arith))
        | inr above ↦
            let k = i - n in
            let place : i ≡ n + k = omega arith in
            let inside : k < length sums = omega arith in
            let within = are.within in
            let e = get_or sums k no_expression in
            let s = get_or p.defs k no_sum in
            let x = are.each k no_sum no_expression inside in
            let front : Agree n xs a = λ j b. value_at-extended p.defs a j (omega arith) in
            ap (λ (j : ℕ). value_at xs j) place
            ∙ sum_at_place p a k h w (omega arith)
            ∙ sym (x.value xs (variables_among p a h w))
            ∙ expression-agree n xs a e front x.definable.named
            ∙ sym (get_or-map (expression_value a) sums k no_expression (pos 0) inside)
            ∙ sym (back_at a (map (expression_value a) sums) i k (pos 0) (omega arith))
      ]

  -- so a clause that follows holds at them
  said : (first : Domains) (a : List ℤ) (C : List ℤ → Type 0) (clause : List Atom) → first ≡ p.domains → IsWithinDomains p.model a → Follows C first clause → C (with_sums p.defs a) → IsClauseOver (subject_count p.model.variables sums) clause → clause_holds clause (extended sums a) ≡ true
  said first a C clause same w f holds over =
      let xs = with_sums p.defs a in
      let inside : IsWithin first xs = subst (λ (ds : Domains). IsWithin ds xs) (sym same) (λ i l. extended_within p a h w i l) in
      sym (clause-agree (subject_count p.model.variables sums) xs (extended sums a) clause (log-agree a w) over) ∙ f.at xs inside holds

-- ---- the three sorts of tasks

bound_stays : (z : Bound) (t : Task) → ((upper : ℤ) → lowered upper t ≡ t) → below_bound z t ≡ t
bound_stays Infinite t h = refl
bound_stays (At v) t h = h (v -ℤ pos 1)

length-bounded : (p : Problem) (z : Bound) (tasks : List Task) → tasks ≡ map (below_bound z) p.tasks → length tasks ≡ length p.tasks
length-bounded p z tasks whole = ap (λ (ts : List Task). length ts) whole ∙ length-map p.tasks (below_bound z)

-- the task with a number as the search has it
task_at : (p : Problem) (z : Bound) (tasks : List Task) (number : ℕ) (d : Task) → tasks ≡ map (below_bound z) p.tasks → number < length tasks → get_or tasks number d ≡ below_bound z (get_or p.tasks number d)
task_at p z tasks number d whole l =
    let size = length-bounded p z tasks whole in
    ap (λ (ts : List Task). get_or ts number d) whole ∙ bounded_at z p.tasks number d (omega arith)

by_constraint : (p : Problem) (z : Bound) (tasks : List Task) (first : Domains) (number : ℕ) (clause : List Atom) (sums : List LinearExpr) → IsInstance p → tasks ≡ map (below_bound z) p.tasks → first ≡ p.domains → IsGivenBy tasks number first clause → AreSumsOf p sums
    → IsClauseOver (subject_count p.model.variables sums) clause → number < length p.model.constraints → IsSomeAnd (slice_get p.model.constraints number) (HoldsByConstraint p.model sums clause)
by_constraint p z tasks first number clause sums h whole same given are over l =
    let t = h.tasks in
    let d = t.list in
    let u = get_or t.constraints number d in
    let size = zip_length (Means p.model p.defs) p.model.constraints t.constraints t.mean in
    let here : get_or p.tasks number d ≡ u = ap (λ (ts : List Task). get_or ts number d) t.order ∙ get_or-append t.constraints _ d number (omega arith) in
    some_weaker (λ c. Means p.model p.defs c u) (HoldsByConstraint p.model sums clause) (slice_get p.model.constraints number)
    (λ c means a w satisfied. (
    let xs = with_sums p.defs a in
    let long = length-are_within p.model.variables a w in
    let is : get_or tasks number d ≡ u = task_at p z tasks number d whole given.within ∙ ap (λ (v : Task). below_bound z v) here ∙ bound_stays z u means.stays in
    let holds : HoldsTask (get_or tasks number d) xs = subst (λ (v : Task). HoldsTask v xs) (sym is) ((means.holds a long).1 satisfied) in
    said p sums h are first a (HoldsTask (get_or tasks number d)) clause same w (given.follows d) holds over))
    (zip_at (Means p.model p.defs) p.model.constraints t.constraints number d t.mean l)

pub not_before : (k n : ℕ) → n ≤ k → nat_lt k n ≡ false
not_before k n h = grind (arith, nat_tests)

sum_here : (vs : List Variable) (sums : List LinearExpr) (k : ℕ) (P : LinearExpr → Type 0) → k < length sums → P (get_or sums k no_expression) → IsSomeAnd (sum_at vs sums (length vs + k)) P
sum_here vs sums k P l h =
    let test : nat_lt (length vs + k) (length vs) ≡ false = not_before (length vs + k) (length vs) (omega arith) in
    let place : (length vs + k) - length vs ≡ k = omega arith in
    let is : sum_at vs sums (length vs + k) ≡ slice_get sums k = ap (λ (b : Bool). if b then None else slice_get sums ((length vs + k) - length vs)) test ∙ ap (λ (j : ℕ). slice_get sums j) place in
    subst (λ (o : Option LinearExpr). IsSomeAnd o P) (sym is) (some_here P sums k no_expression l h)

same_ends : (a b c d : ℤ) → a ≡ c → b ≡ d → (let ps : List (ℤ × ℤ) = (a, b) ∷ [] in ps) ≡ (let qs : List (ℤ × ℤ) = (c, d) ∷ [] in qs)
same_ends a b c d e f = cc

-- values in a log's domains are in the instance's
values_among : (p : Problem) (sums : List LinearExpr) → IsInstance p → AreSumsOf p sums → (xs : List ℤ) → AreValues p.model sums xs → (i : ℕ) → i < subject_count p.model.variables sums → is_among (domain_at p.domains i) (value_at xs i) ≡ true
values_among p sums h are xs v i l =
    let vs = p.model.variables in
    let n = variable_count p in
    let x = value_at xs i in
    let long : length (map variable_domain vs) ≡ n = length-map vs variable_domain in
    let within : is_within (get_or (subject_domains vs sums) i []) x ≡ true = v i l in
    elim (cases_lt i n) [
      | inl below ↦
          let first : get_or (subject_domains vs sums) i [] ≡ bounds_at vs i = get_or-append (map variable_domain vs) (map (sum_domain vs) sums) [] i (omega arith) in
          h.domains.variables i x below ∙ ap (λ (bs : List ℤ). is_within bs x) (sym first) ∙ within
      | inr above ↦
          let k = i - n in
          let place : i ≡ n + k = omega arith in
          let inside : k < length sums = omega arith in
          let few = are.within in
          let e = get_or sums k no_expression in
          let s = get_or p.defs k no_sum in
          let of = are.each k no_sum no_expression inside in
          let last : get_or (subject_domains vs sums) i [] ≡ sum_domain vs e = back_at (map variable_domain vs) (map (sum_domain vs) sums) i k [] (omega arith) ∙ get_or-map (sum_domain vs) sums k no_expression [] inside in
          let sum = sum_of_at p.domains n p.defs k no_sum h.domains.sums (omega arith) in
          let bounds : domain_at p.domains i ≡ pairs_of (sum_domain vs e) =
          ap (λ (j : ℕ). domain_at p.domains j) place ∙ sum.domain ∙ same_ends (least_sum_of p.domains s) (greatest_sum_of p.domains s) (least_value vs e) (greatest_value vs e) (sym of.least) (sym of.greatest) in
          ap (λ (ps : List (ℤ × ℤ)). is_among ps x) bounds ∙ among_pairs (sum_domain vs e) x ∙ ap (λ (bs : List ℤ). is_within bs x) (sym last) ∙ within
    ]

-- a value for each subject: those that a list has for the first ones, and for each other one the least of its domain
abbrev filled : Domains → ℕ → ℕ → List ℤ → List ℤ
filled [] count i xs = []
filled (d ∷ ds) count i xs = (if nat_lt i count then value_at xs i else least_of d) ∷ filled ds count (i + 1) xs

filled_known : (ds : Domains) (count i : ℕ) (xs : List ℤ) (j m : ℕ) → j < length ds → m ≡ i + j → m < count → value_at (filled ds count i xs) j ≡ value_at xs m
filled_known [] count i xs j m l e k = absurd (omega arith)
filled_known (d ∷ ds) count i xs zero m l e k =
    let test : nat_lt i count ≡ true = lt-ltb i count (omega arith) in
    ap (λ (b : Bool). if b then value_at xs i else least_of d) test ∙ ap (λ (j : ℕ). value_at xs j) (let f : i ≡ m = omega arith in f)
filled_known (d ∷ ds) count i xs (suc j) m l e k = filled_known ds count (i + 1) xs j m (omega arith) (omega arith) k

filled_other : (ds : Domains) (count i : ℕ) (xs : List ℤ) (j m : ℕ) → j < length ds → m ≡ i + j → count ≤ m → value_at (filled ds count i xs) j ≡ least_of (domain_at ds j)
filled_other [] count i xs j m l e k = absurd (omega arith)
filled_other (d ∷ ds) count i xs zero m l e k =
    let test : nat_lt i count ≡ false = not_before i count (omega arith) in
    ap (λ (b : Bool). if b then value_at xs i else least_of d) test
filled_other (d ∷ ds) count i xs (suc j) m l e k = filled_other ds count (i + 1) xs j m (omega arith) (omega arith) k

filled_among : (p : Problem) (sums : List LinearExpr) → IsInstance p → AreSumsOf p sums → (xs : List ℤ) → AreValues p.model sums xs → (i : ℕ) → i < length p.domains → is_among (domain_at p.domains i) (value_at (filled p.domains (subject_count p.model.variables sums) 0 xs) i) ≡ true
filled_among p sums h are xs v i l =
    let count = subject_count p.model.variables sums in
    elim (cases_lt i count) [
      | inl below ↦ ap (λ (x : ℤ). is_among (domain_at p.domains i) x) (filled_known p.domains count 0 xs i i l (omega arith) below) ∙ values_among p sums h are xs v i below
      | inr above ↦ ap (λ (x : ℤ). is_among (domain_at p.domains i) x) (filled_other p.domains count 0 xs i i l (omega arith) above) ∙ least_among (domain_at p.domains i) (All-get_or AreIntervals p.domains i [] l h.domains.sound)
    ]

pub constraints_of : CpModel → List Task
constraints_of m = constraint_tasks m.constraints (subject_lists (first_of_constraints m) m.constraints)

pub length-constraints_of : (m : CpModel) → length (constraints_of m) ≡ length m.constraints
unfolding constraints_of
length-constraints_of m = length-constraint_tasks (first_of_constraints m) m.constraints

pub tasks_in_order : (p : Problem) → IsUngrown p → p.tasks ≡ constraints_of p.model ++ (sum_tasks (variable_count p) p.defs ++ objective_tasks p.model)
unfolding constraints_of
tasks_in_order p h = h.tasks ∙ ap (λ (ss : List DefinedSum). constraint_tasks p.model.constraints (subject_lists (first_of_constraints p.model) p.model.constraints) ++ (sum_tasks (variable_count p) ss ++ objective_tasks p.model)) (sym h.sums)

-- how many tasks there are: one for each constraint and each sum, and two for the objective
pub tasks_counted : (p : Problem) → IsInstance p → length p.tasks ≡ (length p.model.constraints + length p.defs) + 2
tasks_counted p h =
    let t = h.tasks in
    let n = variable_count p in
    let size = zip_length (Means p.model p.defs) p.model.constraints t.constraints t.mean in
    let sums = sum_tasks n t.first in
    let others = sum_tasks (n + length t.first) t.later in
    let all = ap (λ (ts : List Task). length ts) t.order ∙ length-append t.constraints (sums ++ (t.list ∷ (t.cut ∷ others))) in
    let rest = length-append sums (t.list ∷ (t.cut ∷ others)) in
    let first = length-sum_tasks n t.first in
    let later = length-sum_tasks (n + length t.first) t.later in
    let parts = ap (λ (ss : List DefinedSum). length ss) t.sums ∙ length-append t.first t.later in
    omega arith

-- the task of a sum stands behind those of the constraints
pub sum_task_here : (p : Problem) (k : ℕ) (d : Task) → IsInstance p → IsUngrown p → k < length p.defs → get_or p.tasks (length p.model.constraints + k) d ≡ sum_task (variable_count p + k) (get_or p.defs k no_sum)
sum_task_here p k d h ungrown l =
    let n = variable_count p in
    let cts = constraints_of p.model in
    let sts = sum_tasks n p.defs in
    let size = length-constraints_of p.model in
    let sizes = length-sum_tasks n p.defs in
    let number = length p.model.constraints + k in
    ap (λ (ts : List Task). get_or ts number d) (tasks_in_order p ungrown)
    ∙ back_at cts (sts ++ objective_tasks p.model) number k d (omega arith)
    ∙ get_or-append sts (objective_tasks p.model) d k (omega arith)
    ∙ sum_task_at n p.defs k d no_sum (omega arith)

by_sum : (p : Problem) (z : Bound) (tasks : List Task) (first : Domains) (number k : ℕ) (clause : List Atom) (sums : List LinearExpr) → IsInstance p → IsUngrown p → tasks ≡ map (below_bound z) p.tasks → first ≡ p.domains → IsGivenBy tasks number first clause → AreSumsOf p sums
    → IsClauseOver (subject_count p.model.variables sums) clause → number ≡ length p.model.constraints + k → k < length sums → IsSomeAnd (sum_at p.model.variables sums (variable_count p + k)) (HoldsBySum p.model sums (variable_count p + k) clause)
by_sum p z tasks first number k clause sums h ungrown whole same given are over is l =
    let n = variable_count p in
    let vs = p.model.variables in
    let count = subject_count vs sums in
    let d = h.tasks.list in
    let s = get_or p.defs k no_sum in
    let e = get_or sums k no_expression in
    let of = are.each k no_sum no_expression l in
    let few = are.within in
    let every = h.domains.count in
    let here : get_or p.tasks number d ≡ sum_task (n + k) s = ap (λ (i : ℕ). get_or p.tasks i d) is ∙ sum_task_here p k d h ungrown (omega arith) in
    let task : get_or tasks number d ≡ sum_task (n + k) s =
    task_at p z tasks number d whole given.within ∙ ap (λ (v : Task). below_bound z v) here ∙ bound_stays z (sum_task (n + k) s) (λ upper. refl) in
    sum_here vs sums k (HoldsBySum p.model sums (n + k) clause) l
    (λ xs v worth. (
    let ys = filled p.domains count 0 xs in
    let known : Agree count ys xs = λ i b. filled_known p.domains count 0 xs i i (omega arith) (omega arith) b in
    let among = filled_among p sums h are xs v in
    let front : Agree n ys xs = λ i b. known i (omega arith) in
    let value : value_at ys (n + k) ≡ sum_value ys s = known (n + k) (omega arith) ∙ worth ∙ sym (expression-agree n ys xs e front of.definable.named) ∙ of.value ys (λ i b. among i (omega arith)) in
    let summed : HoldsTask (sum_task (n + k) s) ys = λ none. value in
    let holds = subst (λ (u : Task). HoldsTask u ys) (sym task) summed in
    let inside : IsWithin first ys = subst (λ (ds : Domains). IsWithin ds ys) (sym same) among in
    sym (clause-agree count ys xs clause known over) ∙ (given.follows d).at ys inside holds))

pub objective_subjects : (vs : List Variable) (o : Option Objective) → objective_fault vs o ≡ None → All (λ s. s < length vs) (term_subjects (objective_terms o))
objective_subjects vs None e = All-nil (λ (s : ℕ). s < length vs)
objective_subjects vs (Some o) e = terms_subjects (length vs) o.vars o.coeffs (rule_kept 3 _ _ e).0

at_most : (x v u : ℤ) → x ≡ v → v <ℤ u → x ≤ℤ (u -ℤ pos 1)
at_most x v u e b = omega (arith, ints)

cut_holds : (z : Bound) (o : Option Objective) (xs : List ℤ) (v : ℤ) → terms_value xs (objective_terms o) ≡ v → IsBelow v z → HoldsTask (below_bound z (cut_task o)) xs
cut_holds Infinite o xs v e b = λ none. tt
cut_holds (At u) o xs v e b = λ none. at_most (terms_value xs (objective_terms o)) v u e b

objective_sum_is : (o : Option Objective) (xs : List ℤ) → terms_value xs (objective_terms o) ≡ objective_sum o xs
objective_sum_is None xs = refl
objective_sum_is (Some o) xs = terms_of-value xs o.vars o.coeffs

pub objective_worth : (p : Problem) (a : List ℤ) → length a ≡ variable_count p → All (λ s. s < variable_count p) (term_subjects (objective_terms p.model.objective)) → terms_value (with_sums p.defs a) (objective_terms p.model.objective) ≡ objective_value p.model a
objective_worth p a long h =
    let inside : All (λ s. s < length a) (term_subjects (objective_terms p.model.objective)) = rw long h in
    terms_value-agree (with_sums p.defs a) a (objective_terms p.model.objective) (All-weaker (λ (s : ℕ). s < length a) (AgreeAt (with_sums p.defs a) a) (agree-extended p.defs a) (term_subjects (objective_terms p.model.objective)) inside)
    ∙ objective_sum_is p.model.objective a

by_objective : (p : Problem) (z : Bound) (tasks : List Task) (first : Domains) (number : ℕ) (clause : List Atom) (sums : List LinearExpr) → IsInstance p → IsUngrown p → tasks ≡ map (below_bound z) p.tasks → first ≡ p.domains → IsGivenBy tasks number first clause → AreSumsOf p sums
    → IsClauseOver (subject_count p.model.variables sums) clause → length p.model.constraints + length p.defs ≤ number → HoldsWhere p.model sums (IsSought p.model (λ v. IsBelow v z)) clause
by_objective p z tasks first number clause sums h ungrown whole same given are over late a w sought =
    let m = p.model in
    let n = variable_count p in
    let xs = with_sums p.defs a in
    let cts = constraints_of m in
    let sts = sum_tasks n p.defs in
    let d = h.tasks.list in
    let j = number - (length m.constraints + length p.defs) in
    let long = length-are_within m.variables a w in
    let size = length-constraints_of m in
    let sizes = length-sum_tasks n p.defs in
    let order = tasks_in_order p ungrown in
    let total = ap (λ (ts : List Task). length ts) order ∙ length-append cts (sts ++ objective_tasks m) in
    let rest = length-append sts (objective_tasks m) in
    let counted = length-bounded p z tasks whole in
    let inside = given.within in
    let here : get_or p.tasks number d ≡ get_or (objective_tasks m) j d =
    ap (λ (ts : List Task). get_or ts number d) order
    ∙ back_at cts (sts ++ objective_tasks m) number (length p.defs + j) d (omega arith)
    ∙ back_at sts (objective_tasks m) (length p.defs + j) j d (omega arith) in
    let task : get_or tasks number d ≡ below_bound z (get_or (objective_tasks m) j d) = task_at p z tasks number d whole inside ∙ ap (λ (v : Task). below_bound z v) here in
    let subjects = objective_subjects m.variables m.objective (parts_of m h.valid).objective in
    let list = is_list_task m p.defs subjects in
    let listed : HoldsTask (below_bound z (list_task m.objective)) xs = subst (λ (u : Task). HoldsTask u xs) (sym (bound_stays z (list_task m.objective) list.stays)) ((list.holds a long).1 sought.in_domain) in
    let bounded : HoldsTask (below_bound z (cut_task m.objective)) xs = cut_holds z m.objective xs (objective_value m a) (objective_worth p a long subjects) sought.below in
    let holds = subst (λ (u : Task). HoldsTask u xs) (sym task) (two_at (λ u. HoldsTask (below_bound z u) xs) (list_task m.objective) (cut_task m.objective) j d (omega arith) listed bounded) in
    said p sums h are first a (HoldsTask (get_or tasks number d)) clause same w (given.follows d) holds over

-- ---- which item it is

pub reason_item : (n : TaskCounts) (number : ℕ) (clause : List Atom) → number < n.constraints → item_of n number clause ≡ items.Reason number clause
reason_item n number clause l = let test : nat_lt number n.constraints ≡ true = lt-ltb number n.constraints l in rw test refl

pub ends_item : (n : TaskCounts) (number : ℕ) (clause : List Atom) → n.constraints ≤ number → number < n.constraints + n.sums → item_of n number clause ≡ items.Ends (n.variables + (number - n.constraints)) clause
ends_item n number clause l k =
    let test : nat_lt number n.constraints ≡ false = not_before number n.constraints l in
    let test' : nat_lt number (n.constraints + n.sums) ≡ true = lt-ltb number (n.constraints + n.sums) k in
    rw (test, test') refl

pub objective_item : (n : TaskCounts) (number : ℕ) (clause : List Atom) → n.constraints + n.sums ≤ number → item_of n number clause ≡ items.Objective clause
objective_item n number clause l =
    let test : nat_lt number n.constraints ≡ false = not_before number n.constraints (omega arith) in
    let test' : nat_lt number (n.constraints + n.sums) ≡ false = not_before number (n.constraints + n.sums) l in
    rw (test, test') refl

-- the item of a clause that a task of the search gives says what is so
pub gives_true_item : (p : Problem) (z : Bound) (tasks : List Task) (first : Domains) (number : ℕ) (clause : List Atom) (rests : ℤ → Type 0) (g : Derivation) → IsInstance p → IsUngrown p → tasks ≡ map (below_bound z) p.tasks → first ≡ p.domains
    → IsGivenBy tasks number first clause → HasItem p number g.sums clause → IsTrueItem p.model rests (λ v. IsBelow v z) g (item_of (counts_of p) number clause)
gives_true_item p z tasks first number clause rests g h ungrown whole same given can =
    let n = counts_of p in
    let goal : LogItem → Type 0 = λ item. IsTrueItem p.model rests (λ v. IsBelow v z) g item in
    elim (cases_lt number (length p.model.constraints)) [
      | inl early ↦ subst goal (sym (reason_item n number clause early)) (by_constraint p z tasks first number clause g.sums h whole same given can.are can.over early)
      | inr late ↦ elim (cases_lt number (length p.model.constraints + length p.defs)) [
        | inl before ↦
            let own = can.own before in
            subst goal (sym (ends_item n number clause late before)) (by_sum p z tasks first number (number - length p.model.constraints) clause g.sums h ungrown whole same given can.are can.over (omega arith) (omega arith))
        | inr after ↦ subst goal (sym (objective_item n number clause after)) (by_objective p z tasks first number clause g.sums h ungrown whole same given can.are can.over after)
      ]
    ]
