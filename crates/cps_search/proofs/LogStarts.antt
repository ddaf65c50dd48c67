-- What the objective is at least by the domains of the variables.
use Rattle.std.specs.Prelude.{All, Option}
use Rattle.std.specs.Int.{int_min}
use Rattle.std.proofs.Common.{◌≡◌, ◌∙◌, ℕ, ◌+◌, ◌<◌, ◌≤◌, ◌^◌, ℤ, pos, negsuc, ◌+ℤ◌, ◌*ℤ◌, ◌≤ℤ◌, true, List, [], ◌∷◌, ◌++◌, length, get_or, refl, ap, sym, subst, arith}
use Rattle.std.proofs.lemmas.Int.{ints}
use Rattle.std.proofs.lemmas.List.{at_drop_all, get_or-map, length-map}
use Rattle.std.proofs.lemmas.List.Elements.{All-head, All-tail, All-get_or}
use Rattle.cps_model.specs.declared.bound.Bound.TheVariants.{At}
use Rattle.cps_model.specs.Solutions.{IsWithinDomains, objective_value}
use Rattle.cps_model.proofs.Faults.{parts_of}
use Rattle.cps_model.proofs.Inside.{length-are_within}
use Rattle.cps_model.proofs.Products.{times_grows, times_shrinks}
use Rattle.cps_domain.specs.Window.{is_among}
use Rattle.cps_literal.specs.Truth.{value_at}
use Rattle.cps_instance.specs.declared.task.Task.{Task}
use Rattle.cps_instance.specs.declared.task.Body.{Body}
use Rattle.cps_instance.specs.declared.task.Body.TheVariants.{Cut}
use Rattle.cps_instance.specs.declared.term.Term.{Term}
use Rattle.cps_instance.specs.Terms.{Domains, AreIntervals, domain_at, least_of, greatest_of, terms_value, terms_reach, least_of_terms, greatest_of_terms, term_subjects}
use Rattle.cps_instance.specs.Sums.{extended as with_sums}
use Rattle.cps_instance.specs.Fitting.{IsFitting, IsFittingBody, HaveSmallSum}
use Rattle.cps_instance.specs.Tasks.{atom_subjects, subjects_of_body}
use Rattle.cps_instance.proofs.Agreeing.{All-append_right}
use Rattle.cps_instance.specs.Problem.{Problem, IsInstance, variable_count, sum_tasks}
use Rattle.cps_instance.specs.Posting.{objective_terms, cut_task, objective_tasks}
use Rattle.cps_instance.proofs.Boundings.{EndsSoFar, low_end, high_end, ends_more}
use Rattle.cps_instance.proofs.Intervals.{least_of-least, greatest_of-greatest}
use Rattle.cps_instance.proofs.Solving.{extended_within}
use Rattle.cps_log.specs.declared.item.LogItem.TheVariants as items
use Rattle.cps_port.specs.Order.{IsBelow}
use Rattle.cps_tracer.specs.Traced.{Traced, with_item}
use Rattle.cps_search.specs.Logged.{Grows}
use Rattle.cps_search.specs.LogItems.{IsUngrown}
use Rattle.cps_search.proofs.LogItems.{back_at, constraints_of, length-constraints_of, length-sum_tasks, tasks_in_order, objective_subjects, objective_worth}
use Rattle.cps_search.proofs.LogGrowth.{start_grows}

-- ---- the walk over the terms

pub ends_at_start : (ds : Domains) (ts : List Term) → EndsSoFar ds ts (pos 0) 0 (pos 0) (pos 0)
ends_at_start ds ts = record {
  low_is = turned (least_of_terms ds ts);
  high_is = turned (greatest_of_terms ds ts);
  low_size = omega arith;
  high_size = omega arith;
} where
  turned : (z : ℤ) → pos 0 +ℤ z ≡ z +ℤ pos 0
  turned z = omega (arith, ints)

pub ends_over : (ds : Domains) (ts : List Term) (k : ℕ) (low high : ℤ) → EndsSoFar ds ts (pos 0) k low high → length ts ≤ k → low ≡ least_of_terms ds ts
ends_over ds ts k low high h l =
    let none : least_of_terms ds _ ≡ pos 0 = at_drop_all (least_of_terms ds) ts k l in
    let is = h.low_is in
    alone low _ (least_of_terms ds ts) none is where
      alone : (low rest whole : ℤ) → rest ≡ pos 0 → low +ℤ rest ≡ whole +ℤ pos 0 → low ≡ whole
      alone low rest whole e f = omega (arith, ints)

pub least_more : (ds : Domains) (ts : List Term) (k : ℕ) (low high : ℤ) (t : Term) (more low' : ℤ) → EndsSoFar ds ts (pos 0) k low high → k < length ts → t ≡ get_or ts k t → more ≡ low_end t (domain_at ds t.subject) → low' ≡ low +ℤ more → (high' : ℤ) × EndsSoFar ds ts (pos 0) (k + 1) low' high'
least_more ds ts k low high t more low' h l e is sum =
    let high' = high +ℤ high_end t (domain_at ds t.subject) in
    (high', ends_more ds ts (pos 0) k low high low' high' t h l e (sum ∙ ap (λ (z : ℤ). low +ℤ z) is) refl)

-- ---- the least sum

min_left : (x y : ℤ) → int_min x y ≤ℤ x
min_left x y = grind (arith, ints)

min_right : (x y : ℤ) → int_min x y ≤ℤ y
min_right x y = grind (arith, ints)

least_term : (c l v h : ℤ) → l ≤ℤ v → v ≤ℤ h → int_min (c *ℤ l) (c *ℤ h) ≤ℤ (c *ℤ v)
least_term (pos c) l v h p q =
    let grown = times_grows (pos c) l v (omega (arith, ints)) p in
    let least = min_left (pos c *ℤ l) (pos c *ℤ h) in
    omega (arith, ints)
least_term (negsuc c) l v h p q =
    let shrunk = times_shrinks (negsuc c) v h (omega (arith, ints)) q in
    let least = min_right (negsuc c *ℤ l) (negsuc c *ℤ h) in
    omega (arith, ints)

plus_least : (a b c d : ℤ) → a ≤ℤ b → c ≤ℤ d → (a +ℤ c) ≤ℤ (b +ℤ d)
plus_least a b c d p q = omega (arith, ints)

least_below : (ds : Domains) (n : ℕ) (xs : List ℤ) (ts : List Term) → All AreIntervals ds → n ≤ length ds → ((i : ℕ) → i < n → is_among (domain_at ds i) (value_at xs i) ≡ true) → All (λ t. t.subject < n) ts → least_of_terms ds ts ≤ℤ terms_value xs ts
least_below ds n xs [] sound few among h = omega (arith, ints)
least_below ds n xs (t ∷ ts) sound few among h =
    let below = All-head (λ u. u.subject < n) t ts h in
    let d = domain_at ds t.subject in
    let rising : AreIntervals d = All-get_or AreIntervals ds t.subject [] (omega arith) sound in
    let here = among t.subject below in
    plus_least _ _ _ _ (least_term t.coeff (least_of d) (value_at xs t.subject) (greatest_of d) (least_of-least d (value_at xs t.subject) rising here) (greatest_of-greatest d (value_at xs t.subject) rising here))
    (least_below ds n xs ts sound few among (All-tail (λ u. u.subject < n) t ts h))

-- ---- the task of the cut

-- in an instance to which no sum was added the last task is the cut
pub cut_here : (p : Problem) (d : Task) → IsInstance p → IsUngrown p → get_or p.tasks (length p.model.constraints + length p.defs + 1) d ≡ cut_task p.model.objective
cut_here p d h ungrown =
    let cts = constraints_of p.model in
    let sts = sum_tasks (variable_count p) p.defs in
    let size = length-constraints_of p.model in
    let sizes = length-sum_tasks (variable_count p) p.defs in
    let number = length p.model.constraints + length p.defs + 1 in
    ap (λ (ts : List Task). get_or ts number d) (tasks_in_order p ungrown)
    ∙ back_at cts (sts ++ objective_tasks p.model) number (length p.defs + 1) d (omega arith)
    ∙ back_at sts (objective_tasks p.model) (length p.defs + 1) 1 d (omega arith)

-- the terms of a cut have small sums, and subjects that there are
pub record AreCutTerms (p : Problem) (terms : List Term) : Type 0 where
  pub subjects : All (λ t. t.subject < length p.domains) terms
  pub small : terms_reach p.domains terms < 2 ^ 62

each_subject : (n : ℕ) (ts : List Term) → All (λ s. s < n) (term_subjects ts) → All (λ t. t.subject < n) ts
each_subject n ts h = λ k d l. subst (λ (s : ℕ). s < n) (get_or-map (λ (t : Term). t.subject) ts k d d.subject l) (h k d.subject (let size = length-map ts (λ (t : Term). t.subject) in omega arith))

cut_terms : (p : Problem) (t : Task) (terms : List Term) (upper : Option ℤ) → IsFitting p.domains t → t.body ≡ Cut terms upper → AreCutTerms p terms
cut_terms p t terms upper fits is = record {
  subjects =
      let all : All (λ s. s < length p.domains) (atom_subjects t.enforcement ++ subjects_of_body t.body) = fits.subjects in
      let own = All-append_right (λ s. s < length p.domains) (atom_subjects t.enforcement) (subjects_of_body t.body) all in
      each_subject (length p.domains) terms (subst (λ (b : Body). All (λ s. s < length p.domains) (subjects_of_body b)) is own);
  small = let small : HaveSmallSum p.domains terms = subst (λ (b : Body). IsFittingBody p.domains b) is fits.body in small.small;
}

-- the same of a task as it is read
pub read_cut : (p : Problem) (tasks : List Task) (t : Task) (k : ℕ) (terms us : List Term) (upper : Option ℤ) → IsInstance p → tasks ≡ p.tasks → k < length tasks → t ≡ get_or tasks k t → t.body ≡ Cut terms upper → us ≡ terms → AreCutTerms p us
read_cut p tasks t k terms us upper h same l at cut is =
    let here : t ≡ get_or p.tasks k t = at ∙ ap (λ (ts : List Task). get_or ts k t) same in
    let size = ap (λ (ts : List Task). length ts) same in
    let fits : IsFitting p.domains (get_or p.tasks k t) = All-get_or (IsFitting p.domains) p.tasks k t (omega arith) h.fits in
    subst (λ (ts : List Term). AreCutTerms p ts) (sym is) (cut_terms p t terms upper (subst (λ (u : Task). IsFitting p.domains u) (sym here) fits) cut)

-- the least sum of a cut's terms is no greater than the objective
pub least_objective_is : (p : Problem) (t : Task) (d : Task) (terms : List Term) (upper : Option ℤ) (least : ℤ) → IsInstance p → t ≡ get_or p.tasks (length p.model.constraints + length p.defs + 1) d → t.body ≡ Cut terms upper → least ≡ least_of_terms p.domains terms → IsUngrown p → (a : List ℤ) → IsWithinDomains p.model a → least ≤ℤ objective_value p.model a
least_objective_is p t d terms upper least h at cut is ungrown a w =
    let m = p.model in
    let ts = objective_terms m.objective in
    let xs = with_sums p.defs a in
    let count = h.domains.count in
    let same : Cut terms upper ≡ (cut_task m.objective).body = sym cut ∙ ap (λ (u : Task). u.body) (at ∙ cut_here p d h ungrown) in
    let terms_are : terms ≡ ts = cc in
    let subjects = objective_subjects m.variables m.objective (parts_of m h.valid).objective in
    let worth = objective_worth p a (length-are_within m.variables a w) subjects in
    let below = least_below p.domains (variable_count p) xs ts h.domains.sound (omega arith) (λ i l. extended_within p a h w i (omega arith)) (each_subject (variable_count p) ts subjects) in
    let value = is ∙ ap (least_of_terms p.domains) terms_are in
    omega (arith, ints)

pub start_written : (p : Problem) (z : ℤ) (t u : Traced) (least : ℤ) → (IsUngrown p → (a : List ℤ) → IsWithinDomains p.model a → least ≤ℤ objective_value p.model a) → z ≤ℤ least → IsUngrown p → u ≡ with_item t (items.Objective []) → Grows p (At z) t u
start_written p z t u least from at_least ungrown added =
    start_grows p (At z) t u (λ sums a w sought. absurd (let low = from ungrown a w in let below = sought.below in apart z least (objective_value p.model a) at_least low below)) added where
      apart : (z least v : ℤ) → z ≤ℤ least → least ≤ℤ v → IsBelow v (At z) → ⊥
      apart z least v p q b = omega (arith, ints)
