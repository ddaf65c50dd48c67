-- What the calls append that write items of a log: it stays true, and open where it was.
use Rattle.std.specs.Prelude.{All, nat_lt, ◌-◌, if◌then◌else◌, None, Some}
use Rattle.std.proofs.Common.{◌≡◌, ◌∙◌, ℕ, ◌+◌, ◌<◌, ◌≤◌, ℤ, Bool, true, false, List, [], ◌∷◌, ◌++◌, length, get_or, refl, ap, sym, subst, inl, inr, arith, length-append, lt-ltb}
use Rattle.std.proofs.Math.ListN.{get_or-append}
use Rattle.std.proofs.lemmas.Bool.{cases_lt}
use Rattle.std.proofs.lemmas.List.{append-nil, get_or_default}
use Rattle.cps_model.specs.declared.bound.Bound.{Bound}
use Rattle.cps_model.specs.declared.model.LinearExpr.{LinearExpr}
use Rattle.cps_literal.specs.declared.atom.Atom.{Atom}
use Rattle.cps_instance.specs.declared.task.Task.{Task}
use Rattle.cps_instance.specs.declared.task.Body.{Body}
use Rattle.cps_instance.specs.declared.task.Body.TheVariants.{Sum}
use Rattle.cps_instance.specs.declared.term.Term.{Term}
use Rattle.cps_instance.specs.Sums.{DefinedSum}
use Rattle.cps_instance.specs.Problem.{Problem, IsInstance, variable_count}
use Rattle.cps_log.specs.declared.item.LogItem.{LogItem}
use Rattle.cps_log.specs.declared.item.LogItem.TheVariants as items
use Rattle.cps_log.specs.Deriving.{Derivation, defined_sum}
use Rattle.cps_log.specs.Runs.{HoldsWhere, IsSought, IsTrueItem, IsClosedLog, with_learnt, learnt_in}
use Rattle.cps_log.specs.Subjects.{IsClauseOver}
use Rattle.cps_port.specs.Order.{IsBelow}
use Rattle.cps_tracer.specs.Traced.{Traced, IsAbout, with_item, derivation_of, before, sums_in, subjects_of}
use Rattle.cps_tracer.proofs.Items.{about_kept, derived_is, learnt-append, sums-append, true_with_item}
use Rattle.cps_search.specs.declared.log_items.TaskCounts.{TaskCounts}
use Rattle.cps_search.specs.Logged.{IsTrueLog, Grows}
use Rattle.cps_search.specs.Logging.{IsGivenBelow}
use Rattle.cps_search.specs.LogItems.{IsUngrown, counts_of, item_of, sum_subject, IsExpressionOf, expression_of, HasExpression, AreSumsOf, HasItem}
use Rattle.cps_search.proofs.LogItems.{no_sum, back_at, sum_of_at, sum_task_here, not_before, reason_item, ends_item, objective_item, gives_true_item}
use Rattle.cps_search.proofs.LogSums.{is_expression}

-- ---- one item more

last_same : {A : Type 0} (xs ys : List A) (x y : A) → xs ++ x ∷ [] ≡ ys ++ y ∷ [] → x ≡ y
last_same [] [] x y e = cc
last_same [] (b ∷ []) x y e = cc
last_same [] (b ∷ (c ∷ ys)) x y e = cc
last_same (a ∷ []) [] x y e = cc
last_same (a ∷ (b ∷ xs)) [] x y e = cc
last_same (a ∷ xs) (b ∷ ys) x y e = last_same xs ys x y cc

-- an item that is not the empty clause leaves a log open
unclosed_with : (log : List LogItem) (item : LogItem) → (item ≡ items.Learnt [] → ⊥) → IsClosedLog (log ++ item ∷ []) → ⊥
unclosed_with log item other closed = other (last_same log closed.before item (items.Learnt []) closed.is)

-- an item that says what is so, is no learnt clause, and defines at most the next sum of the instance
record MayFollow (p : Problem) (z : Bound) (t : Traced) (item : LogItem) : Type 1 where
  unlearnt : with_learnt item [] ≡ []
  no_end : item ≡ items.Learnt [] → ⊥
  true_item : (rests : ℤ → Type 0) → IsAbout p.model t → AreSumsOf p (sums_in t.items) → IsTrueItem p.model rests (λ v. IsBelow v z) (derivation_of p.model t) item
  sums : IsAbout p.model t → AreSumsOf p (sums_in t.items) → AreSumsOf p (sums_in t.items ++ before (defined_sum item) [])

grows_by : (p : Problem) (z : Bound) (t u : Traced) (item : LogItem) → MayFollow p z t item → u ≡ with_item t item → Grows p z t u
grows_by p z t u item may added = record {
  stays = λ core learnt h.
      let same : learnt_in (t.items ++ item ∷ []) ≡ learnt = learnt-append t.items item ∙ ap (λ (cs : List (List Atom)). learnt_in t.items ++ cs) may.unlearnt ∙ append-nil (learnt_in t.items) ∙ h.learnt_are in
      subst (λ (v : Traced). IsTrueLog p z core learnt v) (sym added)
      (record {
        about = about_kept p.model t item h.about;
        items = true_with_item p.model _ _ t (with_item t item) item h.items (may.true_item _ h.about h.sums) refl;
        learnt_are = same;
        sums = subst (λ (es : List LinearExpr). AreSumsOf p es) (sym (sums-append t.items item)) (may.sums h.about h.sums);
      });
  stays_open = λ unclosed closed. unclosed_with t.items item may.no_end (subst (λ (v : Traced). IsClosedLog v.items) added closed);
}

pub grows_not : (p : Problem) (z : Bound) (t : Traced) → Grows p z t t
grows_not p z t = record { stays = λ core learnt h. h; stays_open = λ unclosed closed. unclosed closed }

pub grows_more : (p : Problem) (z : Bound) (t u v : Traced) → Grows p z t u → Grows p z u v → Grows p z t v
grows_more p z t u v g h = record {
  stays = λ core learnt is. h.stays core learnt (g.stays core learnt is);
  stays_open = λ unclosed. h.stays_open (g.stays_open unclosed);
}

-- ---- a sum more

sums_counted : (p : Problem) (t : Traced) (k : ℕ) → IsAbout p.model t → subjects_of t ≡ variable_count p + k → length (sums_in t.items) ≡ k
sums_counted p t k about count = let same = ap (λ vs. length vs) about.variables in omega arith

expression_more : (p : Problem) (sums : List LinearExpr) (k : ℕ) (e : LinearExpr) → AreSumsOf p sums → length sums ≡ k → k < length p.defs → IsExpressionOf p (get_or p.defs k no_sum) e → AreSumsOf p (sums ++ e ∷ [])
expression_more p sums k e are count inside is = record {
  within = let size = length-append sums (e ∷ []) in omega arith;
  each = λ j r f l. elim (cases_lt j k) [
    | inl below ↦
        let first : get_or (sums ++ e ∷ []) j f ≡ get_or sums j f = get_or-append sums (e ∷ []) f j (omega arith) in
        subst (λ (x : LinearExpr). IsExpressionOf p (get_or p.defs j r) x) (sym first) (are.each j r f (omega arith))
    | inr above ↦
        let size = length-append sums (e ∷ []) in
        let here : j ≡ k = omega arith in
        let last : get_or (sums ++ e ∷ []) j f ≡ e = back_at sums (e ∷ []) j 0 f (omega arith) in
        let sum : get_or p.defs k no_sum ≡ get_or p.defs j r = get_or_default p.defs k no_sum r inside ∙ ap (λ (i : ℕ). get_or p.defs i r) (sym here) in
        subst (λ (x : LinearExpr). IsExpressionOf p (get_or p.defs j r) x) (sym last) (subst (λ (x : DefinedSum). IsExpressionOf p x e) sum is)
  ];
}

same_sum : (r s : DefinedSum) → r.terms ≡ s.terms → r.offset ≡ s.offset → r ≡ s
same_sum r s e f = same r.terms s.terms r.offset s.offset e f where
  same : (ts us : List Term) (o n : ℤ) → ts ≡ us → o ≡ n → (let d : DefinedSum = record { terms = ts; offset = o } in d) ≡ (let d : DefinedSum = record { terms = us; offset = n } in d)
  same ts us o n e f = rw (e, f) refl

-- the sum that the next task defines is the next sum
next_expression : (p : Problem) (k : ℕ) (body : Body) (d : Task) (e : LinearExpr) → IsInstance p → IsUngrown p → k < length p.defs → body ≡ (get_or p.tasks (length p.model.constraints + k) d).body → HasExpression p body e → IsExpressionOf p (get_or p.defs k no_sum) e
next_expression p k body d e h ungrown l task has =
    let s = get_or p.defs k no_sum in
    let here = sum_task_here p k d h ungrown l in
    let same : Sum has.subject has.sum.terms has.sum.offset ≡ Sum (variable_count p + k) s.terms s.offset = sym has.body_is ∙ task ∙ ap (λ (t : Task). t.body) here in
    let terms : has.sum.terms ≡ s.terms = cc in
    let offset : has.sum.offset ≡ s.offset = cc in
    let sum : has.sum ≡ s = same_sum has.sum s terms offset in
    let small = (sum_of_at p.domains (variable_count p) p.defs k no_sum h.domains.sums l).small in
    subst (λ (f : LinearExpr). IsExpressionOf p s f) (sym (has.is ∙ ap (λ (r : DefinedSum). expression_of p.domains r) sum))
    (is_expression p s h (subst (λ (ts : List Term). All (λ t. t.subject < variable_count p) ts) terms has.over) small)

pub sum_grows : (p : Problem) (z : Bound) (t u : Traced) (k : ℕ) (body : Body) (d : Task) (e : LinearExpr) → IsInstance p → IsUngrown p → subjects_of t ≡ variable_count p + k → k < length p.defs → body ≡ (get_or p.tasks (length p.model.constraints + k) d).body → HasExpression p body e → u ≡ with_item t (items.Sum e) → Grows p z t u
sum_grows p z t u k body d e h ungrown count l task has added =
    let is = next_expression p k body d e h ungrown l task has in
    grows_by p z t u (items.Sum e) (record {
      unlearnt = refl;
      no_end = λ same. cc;
      true_item = λ rests about are. is.definable;
      sums = λ about are. expression_more p (sums_in t.items) k e are (sums_counted p t k about count) l is;
    }) added

-- ---- a clause more

-- the item of a clause that a task gives is no learnt clause, and defines no sum
record IsNoOther (item : LogItem) : Type 0 where
  unlearnt : with_learnt item [] ≡ []
  no_end : item ≡ items.Learnt [] → ⊥
  no_sum : defined_sum item ≡ None

no_other : (n : TaskCounts) (number : ℕ) (clause : List Atom) → IsNoOther (item_of n number clause)
no_other n number clause = by_tests (nat_lt number n.constraints) (nat_lt number (n.constraints + n.sums)) where
  by_tests : (a b : Bool) → IsNoOther (if a then items.Reason number clause else (if b then items.Ends (n.variables + (number - n.constraints)) clause else items.Objective clause))
  by_tests true b = record { unlearnt = refl; no_end = λ same. cc; no_sum = refl }
  by_tests false true = record { unlearnt = refl; no_end = λ same. cc; no_sum = refl }
  by_tests false false = record { unlearnt = refl; no_end = λ same. cc; no_sum = refl }

-- the task is no sum's, or that of a sum that a log defines
abbrev IsOwn : Problem → ℕ → Traced → Type 0
IsOwn p number t = length p.model.constraints ≤ number → number < length p.model.constraints + length p.defs → variable_count p + (number - length p.model.constraints) < subjects_of t

item_grows : (p : Problem) (z : Bound) (t u : Traced) (number : ℕ) (clause : List Atom) → IsInstance p → IsUngrown p → IsGivenBelow p z number clause → IsClauseOver (subjects_of t) clause → IsOwn p number t → u ≡ with_item t (item_of (counts_of p) number clause) → Grows p z t u
item_grows p z t u number clause h ungrown given over own added =
    let m = p.model in
    let item = item_of (counts_of p) number clause in
    let other = no_other (counts_of p) number clause in
    grows_by p z t u item (record {
      unlearnt = other.unlearnt;
      no_end = other.no_end;
      true_item = λ rests about are.
          let g = derivation_of m t in
          let sums : g.sums ≡ sums_in t.items = ap (λ (f : Derivation). f.sums) (derived_is m t.items) in
          let long = ap (λ vs. length vs) about.variables in
          gives_true_item p z _ p.domains number clause rests g h ungrown refl refl given
          (subst (λ (es : List LinearExpr). HasItem p number es clause) (sym sums)
          (record {
            are = are;
            over = subst (λ (vs : List _). IsClauseOver (length vs + length (sums_in t.items)) clause) about.variables over;
            own = λ l. elim (cases_lt number (length m.constraints)) [
              | inl early ↦ omega arith
              | inr late ↦ let there = own late l in omega arith
            ];
          }));
      sums = λ about are. subst (λ (es : List LinearExpr). AreSumsOf p es) (sym (ap (λ o. sums_in t.items ++ before o []) other.no_sum ∙ append-nil (sums_in t.items))) are;
    }) added

-- ---- whose task it is

-- the subject of a task's sum
record IsSumSubject (n : TaskCounts) (number subject : ℕ) : Type 0 where
  late : n.constraints ≤ number
  early : number < n.constraints + n.sums
  is : subject ≡ n.variables + (number - n.constraints)

some_subject : (n : TaskCounts) (number subject : ℕ) → sum_subject n number ≡ Some subject → IsSumSubject n number subject
some_subject n number subject e = elim (cases_lt number n.constraints) [
  | inl early ↦
      let test : nat_lt number n.constraints ≡ true = lt-ltb number n.constraints early in
      let none : sum_subject n number ≡ None = rw test refl in
      absurd (other subject (sym e ∙ none))
  | inr late ↦
      let test : nat_lt number n.constraints ≡ false = not_before number n.constraints late in
      elim (cases_lt (number - n.constraints) n.sums) [
        | inl within ↦
            let test' : nat_lt (number - n.constraints) n.sums ≡ true = lt-ltb (number - n.constraints) n.sums within in
            let some : sum_subject n number ≡ Some (n.variables + (number - n.constraints)) = rw (test, test') refl in
            record { late = late; early = omega arith; is = inside subject _ (sym e ∙ some) }
        | inr beyond ↦
            let test' : nat_lt (number - n.constraints) n.sums ≡ false = not_before (number - n.constraints) n.sums beyond in
            let none : sum_subject n number ≡ None = rw (test, test') refl in
            absurd (other subject (sym e ∙ none))
      ]
] where
  other : (i : ℕ) → Some i ≡ None → ⊥
  other i e = cc

  inside : (i j : ℕ) → Some i ≡ Some j → i ≡ j
  inside i j e = cc

no_subject : (n : TaskCounts) (number : ℕ) → sum_subject n number ≡ None → n.constraints ≤ number → n.constraints + n.sums ≤ number
no_subject n number e late =
    let test : nat_lt number n.constraints ≡ false = not_before number n.constraints late in
    elim (cases_lt (number - n.constraints) n.sums) [
      | inl within ↦
          let test' : nat_lt (number - n.constraints) n.sums ≡ true = lt-ltb (number - n.constraints) n.sums within in
          let some : sum_subject n number ≡ Some (n.variables + (number - n.constraints)) = rw (test, test') refl in
          absurd (other (n.variables + (number - n.constraints)) (sym some ∙ e))
      | inr beyond ↦ omega arith
    ] where
      other : (i : ℕ) → Some i ≡ None → ⊥
      other i e = cc

pub reason_grows : (p : Problem) (z : Bound) (t u : Traced) (number : ℕ) (clause : List Atom) → IsInstance p → IsUngrown p → IsGivenBelow p z number clause → IsClauseOver (subjects_of t) clause → number < length p.model.constraints → u ≡ with_item t (items.Reason number clause) → Grows p z t u
reason_grows p z t u number clause h ungrown given over early added =
    item_grows p z t u number clause h ungrown given over (λ late. absurd (omega arith)) (added ∙ ap (with_item t) (sym (reason_item (counts_of p) number clause early)))

pub ends_grows : (p : Problem) (z : Bound) (t u : Traced) (number subject : ℕ) (clause : List Atom) → IsInstance p → IsUngrown p → IsGivenBelow p z number clause → IsClauseOver (subjects_of t) clause → sum_subject (counts_of p) number ≡ Some subject → subject < subjects_of t → u ≡ with_item t (items.Ends subject clause) → Grows p z t u
ends_grows p z t u number subject clause h ungrown given over at there added =
    let is = some_subject (counts_of p) number subject at in
    let place = is.is in
    item_grows p z t u number clause h ungrown given over (λ late l. omega arith)
    (added ∙ ap (λ (i : ℕ). with_item t (items.Ends i clause)) place ∙ ap (with_item t) (sym (ends_item (counts_of p) number clause is.late is.early)))

pub objective_grows : (p : Problem) (z : Bound) (t u : Traced) (number : ℕ) (clause : List Atom) → IsInstance p → IsUngrown p → IsGivenBelow p z number clause → IsClauseOver (subjects_of t) clause → sum_subject (counts_of p) number ≡ None → length p.model.constraints ≤ number → u ≡ with_item t (items.Objective clause) → Grows p z t u
objective_grows p z t u number clause h ungrown given over none late added =
    let last = no_subject (counts_of p) number none late in
    item_grows p z t u number clause h ungrown given over (λ first l. absurd (omega arith)) (added ∙ ap (with_item t) (sym (objective_item (counts_of p) number clause last)))

-- the objective's clause without atoms, where no assignment has an objective that is looked for
pub start_grows : (p : Problem) (z : Bound) (t u : Traced) → ((sums : List LinearExpr) → HoldsWhere p.model sums (IsSought p.model (λ v. IsBelow v z)) []) → u ≡ with_item t (items.Objective []) → Grows p z t u
start_grows p z t u none added = grows_by p z t u (items.Objective []) (record {
  unlearnt = refl;
  no_end = λ same. cc;
  true_item = λ rests about are. none (derivation_of p.model t).sums;
  sums = λ about are. subst (λ (es : List LinearExpr). AreSumsOf p es) (sym (append-nil (sums_in t.items))) are;
}) added
