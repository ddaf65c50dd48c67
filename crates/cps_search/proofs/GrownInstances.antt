-- A search stays sound when its instance gains a sum.
use Rattle.std.specs.Prelude.{map, ◌||◌, IfSome, is_some}
use Rattle.cps_search.specs.Logged.{IsLogAt}
use Rattle.cps_search.proofs.Logs.{none_logged}
use Rattle.std.specs.List.{All}
use Rattle.cps_search.specs.declared.end.Phase.TheVariants.{Stepping}
use Rattle.std.proofs.Common.{false, ℕ, ◌+◌, ◌<◌, ◌^◌, ℤ, ◌≡◌, ◌∙◌, ◌⊎◌, inl, inr, Bool, true, Option, Some, None, List, [], ◌∷◌, ◌++◌, length, take, get_or, refl, sym, ap, subst, arith, length-append}
use Rattle.std.proofs.lemmas.List.{get_or_append_left, length-map}
use Rattle.std.proofs.lemmas.List.Elements.{All-head, All-tail, All-weaker, All-contains, All-get_or}
use Rattle.cps_model.specs.declared.bound.Bound.{Bound}
use Rattle.cps_model.specs.declared.bound.Bound.TheVariants.{At, Infinite}
use Rattle.cps_model.specs.declared.model.CpModel.{CpModel}
use Rattle.cps_model.specs.Solutions.{objective_value, IsFree, IsSolution}
use Rattle.cps_model.proofs.Inside.{length-are_within}
use Rattle.cps_domain.specs.Window.{is_among}
use Rattle.cps_literal.specs.declared.atom.Atom.{Atom}
use Rattle.cps_literal.specs.Truth.{meets, value_at, clause_holds}
use Rattle.cps_instance.specs.declared.task.Task.{Task}
use Rattle.cps_instance.specs.Tasks.{HoldsTask}
use Rattle.cps_instance.specs.Fitting.{IsFitting}
use Rattle.cps_instance.specs.Problem.{Problem, IsInstance, Defines, sum_task}
use Rattle.cps_instance.specs.Sums.{DefinedSum, extended, sum_value}
use Rattle.cps_instance.specs.Terms.{Domains, Intervals, AreIntervals, domain_at, least_of}
use Rattle.cps_instance.proofs.Extending.{length-extended, extended-push, agree-append}
use Rattle.cps_instance.proofs.Growing.{same-append}
use Rattle.cps_instance.proofs.Intervals.{least_among}
use Rattle.cps_trail.specs.declared.note.Note.TheVariants as notes
use Rattle.cps_trail.specs.Trail.{Trail, Entry, Reason, Decision, Because, Later, Explains, IsAdmitted, IsFalseAfter, IsSoundTrail, IsTrueAfter, first_of, up_to}
use Rattle.cps_trail.proofs.Undoing.{admits-add}
use Rattle.cps_port.specs.Order.{BoundLe, IsBelow}
use Rattle.cps_port.specs.Incumbents.{IsIncumbent, IsLowerBound}
use Rattle.cps_clauses.specs.declared.journal.JournalItem.{JournalItem}
use Rattle.cps_clauses.specs.declared.journal.JournalItem.TheVariants.{Learnt, Drop}
use Rattle.cps_clauses.specs.Journals.{after_item, AreHonest}
use Rattle.cps_clauses.specs.Quiet.{Fits}
use Rattle.cps_clauses.specs.Watches.{clause_of, watch_of, IsGuarded}
use Rattle.cps_clauses.specs.Bases.{Base, IsBaseInStep}
use Rattle.cps_clauses.proofs.QuietClauses.{IsQuiet-new_subject}
use Rattle.cps_clauses.proofs.DroppedClauses.{all_held, at_held}
use Rattle.cps_search.specs.Shelves.{base_with, in_force_on}
use Rattle.cps_search.specs.Giving.{ByAll, OrDecided, AreGiven}
use Rattle.cps_search.specs.Searches.{Search, HoldsOver, IsFalsifiable, IsFound, IsHonestJournal, IsSatisfiable, IsSoundSearch, IsWorthy, below_bound}
use Rattle.cps_search.specs.Growing.{GrewBy, grown}
use Rattle.cps_search.specs.Resting.{no_recall}
use Rattle.cps_search.proofs.AssumptionOrder.{first-bottom}
use Rattle.cps_search.proofs.FixedSolutions.{fits_below}
use Rattle.cps_search.proofs.TaskNumbers.{few_tasks}

-- more values leave a clause over the first ones as it is
clause-longer : (xs ys : List ℤ) (c : List Atom) → All (λ t. t.subject < length xs) c → clause_holds c (xs ++ ys) ≡ clause_holds c xs
clause-longer xs ys [] h = refl
clause-longer xs ys (t ∷ ts) h =
    let rest = clause-longer xs ys ts (All-tail (λ (u : Atom). u.subject < length xs) t ts h) in
    let here : value_at xs t.subject ≡ value_at (xs ++ ys) t.subject = agree-append xs ys t.subject (All-head (λ (u : Atom). u.subject < length xs) t ts h) in
    ap (λ (v : ℤ). meets t.op t.value v || clause_holds ts (xs ++ ys)) (sym here) ∙ ap (λ (b : Bool). meets t.op t.value (value_at xs t.subject) || b) rest

-- a list of tasks with one more, below a bound
tasks-push : (z : Bound) (ts : List Task) (t : Task) → below_bound z t ≡ t → map (below_bound z) (ts ++ t ∷ []) ≡ map (below_bound z) ts ++ t ∷ []
tasks-push z [] t e = ap (λ (u : Task). u ∷ []) e
tasks-push z (u ∷ us) t e = ap (λ (vs : List Task). below_bound z u ∷ vs) (tasks-push z us t e)

sum_stays : (z : Bound) (subject : ℕ) (sum : DefinedSum) → below_bound z (sum_task subject sum) ≡ sum_task subject sum
sum_stays Infinite subject sum = refl
sum_stays (At v) subject sum = refl

-- a property of each learnt clause that is weaker
AreHonest-weaker : (P Q : List Atom → Bound → Type 0) → ((c : List Atom) (z : Bound) → P c z → Q c z) → (standing : List (Option (List Atom))) (es : List JournalItem) → AreHonest P standing es → AreHonest Q standing es
AreHonest-weaker P Q w standing [] h = tt
AreHonest-weaker P Q w standing (Learnt c z ∷ es) h = (record { meets = w c z h.0.meets; new = h.0.new }, AreHonest-weaker P Q w (after_item standing (Learnt c z)) es h.1)
AreHonest-weaker P Q w standing (Drop i ∷ es) h = (h.0, AreHonest-weaker P Q w (after_item standing (Drop i)) es h.1)

-- what one more subject leaves of a store
module _ (first : Domains) (ps : Intervals) where
  false_old : (es : List Entry) (t : Atom) → t.subject < length first → IsFalseAfter (first ++ ps ∷ []) es t → IsFalseAfter first es t
  false_old es t l f x a = f x (admits-add first ps es t.subject x l ∙ a)

  false_new : (es : List Entry) (t : Atom) → t.subject < length first → IsFalseAfter first es t → IsFalseAfter (first ++ ps ∷ []) es t
  false_new es t l f x a = f x (sym (admits-add first ps es t.subject x l) ∙ a)

  true_new : (es : List Entry) (t : Atom) → t.subject < length first → IsTrueAfter first es t → IsTrueAfter (first ++ ps ∷ []) es t
  true_new es t l f x a = f x (sym (admits-add first ps es t.subject x l) ∙ a)

  admitted_old : (es : List Entry) (a : List ℤ) → IsAdmitted (first ++ ps ∷ []) es a → IsAdmitted first es a
  admitted_old es a h i l = sym (admits-add first ps es i (value_at a i) l) ∙ h i (let n = length-append first (ps ∷ []) in omega (arith, n, l))

  explains_new : (before : List Entry) (clause : List Atom) (t : Atom) → Explains first before clause t → Explains (first ++ ps ∷ []) before clause t
  explains_new before clause t h = record {
    has = h.has;
    others = λ u has ne. false_new before u (All-contains (λ v. v.subject < length first) clause u h.subjects has) (h.others u has ne);
    subjects = All-weaker (λ v. v.subject < length first) (λ v. v.subject < length (first ++ ps ∷ [])) (λ v l. (let n = length-append first (ps ∷ []) in omega (arith, n, l))) clause h.subjects;
  }

  fits_new : (c : List Atom) → Fits first c → Fits (first ++ ps ∷ []) c
  fits_new c h = record { subjects = All-weaker (λ v. v.subject < length first) (λ v. v.subject < length (first ++ ps ∷ [])) (λ v l. (let n = length-append first (ps ∷ []) in omega (arith, n, l))) c h.subjects }

  -- what tasks and clauses give, they give with one more task too
  given_new : (tasks : List Task) (task : Task) (clauses : List (List Atom)) → All (IsFitting (first ++ ps ∷ [])) (tasks ++ task ∷ []) → (before : List Entry) (t : Atom) (r : Reason)
      → OrDecided (ByAll tasks clauses) first before t r → OrDecided (ByAll (tasks ++ task ∷ []) clauses) (first ++ ps ∷ []) before t r
  given_new tasks task clauses fits before t Decision g = tt
  given_new tasks task clauses fits before t (Because clause) g = absurd g
  given_new tasks task clauses fits before t (Later (notes.Task n a b)) g = record {
    within = (let m = length-append tasks (task ∷ []) in let w = g.within in omega (arith, m, w));
    fitting = λ d. fits n d (let m = length-append tasks (task ∷ []) in let w = g.within in omega (arith, m, w));
    forced = λ d. record { at = λ xs left holds. (g.forced d).at xs (admitted_old before xs left) (subst (λ (u : Task). HoldsTask u xs) (get_or_append_left tasks (task ∷ []) d n g.within) holds) };
  }
  given_new tasks task clauses fits before t (Later (notes.InForce n)) g = record { within = g.within; explains = explains_new before (get_or clauses n []) t g.explains }

  -- clauses stay in step
  guarded_new : (es : List Entry) (clause : List Atom) (i : ℕ) (b : Base) → Fits first clause → IsGuarded first es clause (watch_of b.watched.watches i) → IsGuarded (first ++ ps ∷ []) es clause (watch_of b.watched.watches i)
  guarded_new es clause i b fits h = record {
    each = λ p watched. record {
      holds = λ gone.
          let sat = (h.each p watched).holds (λ d l. false_old es (get_or clause p d) (fits.subjects p d l) (gone d l)) in
          record { place = sat.place; within = sat.within; holds = λ d. true_new es (get_or clause sat.place d) (fits.subjects sat.place d sat.within) (sat.holds d) };
    };
  }

  in_step_new : (b : Base) (es : List Entry) → All (Fits first) b.clauses → IsBaseInStep b first es → IsBaseInStep b (first ++ ps ∷ []) es
  in_step_new b es fits h = record {
    sizes = h.sizes;
    within = h.within;
    at = λ level i l held. guarded_new (up_to level es) (clause_of b.clauses i) i b (fits i [] held.within) (h.at level i l held);
  }

-- a sum more
module _ (p q : Problem) (sum : DefinedSum) (subject : ℕ) (d : Defines p q sum subject) (i : IsInstance p) (j : IsInstance q) where
  values : (a : List ℤ) → extended q.defs a ≡ extended p.defs a ++ sum_value (extended p.defs a) sum ∷ []
  values a = ap (λ (ss : List DefinedSum). extended ss a) d.sums ∙ extended-push p.defs sum a

  free_old : (a : List ℤ) → IsFree q.model a → IsFree p.model a
  free_old a free = subst (λ (m : CpModel). IsFree m a) d.model free

  below_old : (a : List ℤ) (z : Bound) → IsBelow (objective_value q.model a) z → IsBelow (objective_value p.model a) z
  below_old a z below = subst (λ (m : CpModel). IsBelow (objective_value m a) z) d.model below

  count : (a : List ℤ) → IsFree p.model a → length (extended p.defs a) ≡ length p.domains
  count a free = let n = length-extended p.defs a in let m = length-are_within p.model.variables a free.domains in let k = i.domains.count in omega (arith, n, m, k)

  holds_new : (z : Bound) (c : List Atom) → All (λ t. t.subject < length p.domains) c → HoldsOver p z c → HoldsOver q z c
  holds_new z c inside h a free below =
      let old = free_old a free in
      let subjects : All (λ t. t.subject < length (extended p.defs a)) c = subst (λ (n : ℕ). All (λ t. t.subject < n) c) (sym (count a old)) inside in
      ap (λ (xs : List ℤ). clause_holds c xs) (values a) ∙ clause-longer (extended p.defs a) (sum_value (extended p.defs a) sum ∷ []) c subjects ∙ h a old (below_old a z below)

  first_old : (k : ℕ) → k < length p.domains → first_of p.domains k ≡ first_of q.domains k
  first_old k l = same-append p.domains (d.added ∷ []) k l ∙ ap (λ (ds : Domains). first_of ds k) (sym d.domains)

  longer : length q.domains ≡ length p.domains + 1
  longer = ap (λ (ds : Domains). length ds) d.domains ∙ length-append p.domains (d.added ∷ [])

  satisfiable_new : (t : Atom) → IsSatisfiable p.domains t → IsSatisfiable q.domains t
  satisfiable_new t h = record {
    subject = (let n = longer in let l = h.subject in omega (arith, n, l));
    value = h.value;
    in_domain = subst (λ (ps : Intervals). is_among ps h.value ≡ true) (first_old t.subject h.subject) h.in_domain;
    is_met = h.is_met;
  }

  -- the least value of the new subject follows the others
  last : first_of q.domains (length p.domains) ≡ d.added
  last = ap (λ (ds : Domains). first_of ds (length p.domains)) d.domains ∙ at_end p.domains d.added
    where
      at_end : (ds : Domains) (ps : Intervals) → get_or (ds ++ ps ∷ []) (length ds) [] ≡ ps
      at_end [] ps = refl
      at_end (e ∷ ds) ps = at_end ds ps

  old_or_last : (k n : ℕ) → k < n + 1 → (k < n) ⊎ (k ≡ n)
  old_or_last k n l = grind (arith, l)

  value_last : (xs : List ℤ) (x : ℤ) → value_at (xs ++ x ∷ []) (length xs) ≡ x
  value_last [] x = refl
  value_last (y ∷ xs) x = value_last xs x

  falsifiable_new : (c : List Atom) → All (λ t. t.subject < length p.domains) c → IsFalsifiable p c → IsFalsifiable q c
  falsifiable_new c inside h =
      let size : length p.domains < length q.domains = (let n = longer in omega (arith, n)) in
      let sound : AreIntervals (first_of q.domains (length p.domains)) = All-get_or AreIntervals q.domains (length p.domains) [] size j.domains.sound in
      let x = least_of (first_of q.domains (length p.domains)) in
      record {
        values = h.values ++ x ∷ [];
        count = (let n = longer in let m = length-append h.values (x ∷ []) in let k = h.count in omega (arith, n, m, k));
        within = λ k l. elim (old_or_last k (length p.domains) (let n = longer in omega (arith, n, l))) [
          | inl old ↦
              let here : value_at h.values k ≡ value_at (h.values ++ x ∷ []) k = agree-append h.values (x ∷ []) k (let m = h.count in omega (arith, m, old)) in
              subst (λ (v : ℤ). is_among (first_of q.domains k) v ≡ true) here (subst (λ (ps : Intervals). is_among ps (value_at h.values k) ≡ true) (first_old k old) (h.within k old))
          | inr end ↦
              let at : value_at (h.values ++ x ∷ []) k ≡ x = ap (λ (n : ℕ). value_at (h.values ++ x ∷ []) n) (end ∙ sym h.count) ∙ value_last h.values x in
              subst (λ (n : ℕ). is_among (first_of q.domains n) (value_at (h.values ++ x ∷ []) k) ≡ true) (sym end) (subst (λ (v : ℤ). is_among (first_of q.domains (length p.domains)) v ≡ true) (sym at) (least_among (first_of q.domains (length p.domains)) sound))
        ];
        fails = clause-longer h.values (x ∷ []) c (subst (λ (n : ℕ). All (λ t. t.subject < n) c) (sym h.count) inside) ∙ h.fails;
      }

  worthy_new : (c : List Atom) (z : Bound) → IsWorthy p c z → IsWorthy q c z
  worthy_new c z h =
      let inside : All (λ t. t.subject < length p.domains) c = All-weaker (IsSatisfiable p.domains) (λ t. t.subject < length p.domains) (λ t s. s.subject) c h.atoms in
      record {
        some_atom = h.some_atom;
        normal = h.normal;
        atoms = All-weaker (IsSatisfiable p.domains) (IsSatisfiable q.domains) satisfiable_new c h.atoms;
        incumbent = subst (λ (m : CpModel). IsIncumbent m z) (sym d.model) h.incumbent;
        holds = holds_new z c inside h.holds;
        says = falsifiable_new c inside h.says;
      }

  honest_new : (journal : List JournalItem) → IsHonestJournal p journal → IsHonestJournal q journal
  honest_new journal h = record { news = AreHonest-weaker (IsWorthy p) (IsWorthy q) worthy_new [] journal h.news; drops = h.drops }

-- a search that gained a sum at level 0 is sound
module _ (s : Search) (q : Problem) (sum : DefinedSum) (subject : ℕ) (d : Defines s.instance q sum subject) (j : IsInstance q) (h : IsSoundSearch s) (sound : IsSoundTrail s.store) (bottom : s.store.level ≡ 0) where
  trail_new : Trail
  trail_new = record s.store { first = q.domains }

  firsts : q.domains ≡ s.store.first ++ d.added ∷ []
  firsts = d.domains ∙ ap (λ (ds : Domains). ds ++ d.added ∷ []) (sym h.domains)

  tasks_new : s.tasks ++ sum_task subject sum ∷ [] ≡ map (below_bound s.z) q.tasks
  tasks_new =
      ap (λ (ts : List Task). ts ++ sum_task subject sum ∷ []) h.tasks
      ∙ sym (tasks-push s.z s.instance.tasks (sum_task subject sum) (sum_stays s.z subject sum))
      ∙ ap (λ (ts : List Task). map (below_bound s.z) ts) (sym d.tasks)

  fits_all : All (IsFitting q.domains) (s.tasks ++ sum_task subject sum ∷ [])
  fits_all = subst (λ (ts : List Task). All (IsFitting q.domains) ts) (sym tasks_new) (fits_below q s.z j)

  given_all : AreGiven (ByAll (s.tasks ++ sum_task subject sum ∷ []) s.base.clauses) (record s.store { first = q.domains })
  given_all k l = record {
    given = λ e.
        subst (λ (ds : Domains). OrDecided (ByAll (s.tasks ++ sum_task subject sum ∷ []) s.base.clauses) ds (take k s.store.entries) (get_or s.store.entries k e).atom (get_or s.store.entries k e).reason) (sym firsts)
        (given_new s.store.first d.added s.tasks (sum_task subject sum) s.base.clauses (subst (λ (ds : Domains). All (IsFitting ds) (s.tasks ++ sum_task subject sum ∷ [])) firsts fits_all) (take k s.store.entries) (get_or s.store.entries k e).atom (get_or s.store.entries k e).reason ((h.given k l).given e));
  }

  inside : (c : List Atom) → Fits s.store.first c → All (λ t. t.subject < length s.instance.domains) c
  inside c f = subst (λ (ds : Domains). All (λ t. t.subject < length ds) c) h.domains f.subjects

  found_new : (best : Option (List ℤ)) → IfSome best (IsFound s) → IfSome best (IsFound (grown s q (sum_task subject sum)))
  found_new None k = tt
  found_new (Some a) k = record {
    solution = subst (λ (m : CpModel). IsSolution m a) (sym d.model) k.solution;
    reached = subst (λ (m : CpModel). BoundLe s.z (At (objective_value m a))) (sym d.model) k.reached;
  }

  sound_grown : is_some s.log ≡ false → IsSoundSearch (grown s q (sum_task subject sum))
  sound_grown unlogged = record {
    instance = j;
    first = first-bottom q.model.assumptions s.store q.domains sound bottom;
    incumbent = subst (λ (m : CpModel). IsIncumbent m s.z) (sym d.model) h.incumbent;
    domains = refl;
    tasks = tasks_new;
    given = given_all;
    clauses = all_held (HoldsOver q s.z) s.base.clauses s.base.dropped (λ i held. holds_new s.instance q sum subject d h.instance j s.z (clause_of s.base.clauses i) (inside (clause_of s.base.clauses i) (h.subjects i [] held.within)) (at_held (HoldsOver s.instance s.z) s.base.clauses s.base.dropped i h.clauses held));
    subjects = subst (λ (ds : Domains). All (Fits ds) s.base.clauses) (sym firsts) (All-weaker (Fits s.store.first) (Fits (s.store.first ++ d.added ∷ [])) (fits_new s.store.first d.added) s.base.clauses h.subjects);
    base = h.base;
    quiet = IsQuiet-new_subject (in_force_on s.base) s.store (record s.store { first = q.domains }) d.added s.store.level (all_held (Fits s.store.first) s.base.clauses s.base.dropped (λ i held. h.subjects i [] held.within)) (ap (λ (ds : Domains). record s.store { first = ds }) firsts) h.quiet;
    rested = record {
      tasks_rest = bottom;
      recalls = tt;
      within = h.rested.within;
      clauses_rest = subst (λ (ds : Domains). IsBaseInStep (base_with s.base s.rested.watched) ds (take s.rested.clauses s.store.entries)) (sym firsts)
          (in_step_new s.store.first d.added (base_with s.base s.rested.watched) (take s.rested.clauses s.store.entries) h.subjects h.rested.clauses_rest);
    };
    journal = honest_new s.instance q sum subject d h.instance j s.base.journal h.journal;
    none_since = h.none_since;
    above = h.above;
    counted = h.counted;
    within_budget = h.within_budget;
    count = h.count;
    best = found_new s.best h.best;
    raised = subst (λ (m : CpModel). IfSome s.raised (IsLowerBound m)) (sym d.model) h.raised;
    phase = tt;
    logged = none_logged (IsLogAt q s.z s.core s.base.journal Stepping) s.log unlogged;
  }

pub sound_grew : (s t : Search) (sum : DefinedSum) (subject : ℕ) → is_some s.log ≡ false → GrewBy s t sum subject → IsInstance t.instance → IsSoundSearch s → IsSoundTrail s.store → s.store.level ≡ 0 → IsSoundSearch t
sound_grew s t sum subject unlogged h j is sound bottom = subst IsSoundSearch (sym h.is) (sound_grown s t.instance sum subject h.defines j is sound bottom unlogged)

-- the fields of a search after the sum was defined in its instance, its store and its tasks
pub grown_is : (s : Search) (q : Problem) (sum : DefinedSum) (subject : ℕ) (domain : Intervals) (trail : Trail) (tasks : List Task) → Defines s.instance q sum subject → IsSoundSearch s → domain ≡ domain_at q.domains subject → trail ≡ record s.store { first = s.store.first ++ domain ∷ [] }
    → tasks ≡ s.tasks ++ sum_task subject sum ∷ [] → record s { instance = q; store = trail; tasks = tasks; rested = record s.rested { tasks = None; recall = no_recall }; phase = Stepping } ≡ grown s q (sum_task subject sum)
grown_is s q sum subject domain trail tasks d h is t e =
    let there : domain ≡ d.added = is ∙ ap (λ (n : ℕ). first_of q.domains n) d.subject_is ∙ ap (λ (ds : Domains). first_of ds (length s.instance.domains)) d.domains ∙ at_end s.instance.domains d.added in
    let firsts : s.store.first ++ domain ∷ [] ≡ q.domains = ap (λ (ds : Domains). ds ++ domain ∷ []) h.domains ∙ ap (λ (ps : Intervals). s.instance.domains ++ ps ∷ []) there ∙ sym d.domains in
    ap (λ (x : Trail). record s { instance = q; store = x; tasks = tasks; rested = record s.rested { tasks = None; recall = no_recall }; phase = Stepping }) (t ∙ ap (λ (ds : Domains). record s.store { first = ds }) firsts)
    ∙ ap (λ (ts : List Task). record s { instance = q; store = record s.store { first = q.domains }; tasks = ts; rested = record s.rested { tasks = None; recall = no_recall }; phase = Stepping }) e
  where
    at_end : (ds : Domains) (ps : Intervals) → get_or (ds ++ ps ∷ []) (length ds) [] ≡ ps
    at_end [] ps = refl
    at_end (e ∷ ds) ps = at_end ds ps

-- there is room for one more task
pub few_and_one : (s : Search) (q : Problem) (sum : DefinedSum) (subject : ℕ) → Defines s.instance q sum subject → IsInstance q → IsSoundSearch s → length s.tasks + 1 < 2 ^ 32
few_and_one s q sum subject d j h =
    let few = few_tasks q j in
    let more = ap (λ (ts : List Task). length ts) d.tasks ∙ length-append s.instance.tasks (sum_task subject sum ∷ []) in
    let same = ap (λ (ts : List Task). length ts) h.tasks ∙ length-map s.instance.tasks (below_bound s.z) in
    omega (arith, few, more, same)
