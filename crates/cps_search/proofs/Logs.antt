-- The log of a search stays true: when z falls, when the phase changes, when a clause is learnt, and when it is closed.
use Rattle.std.specs.Prelude.{IfSome, Contains, ◌↔◌, is_some}
use Rattle.std.proofs.Common.{◌≡◌, ◌∙◌, ◌≤◌, ℤ, ℕ, Bool, true, false, Option, Some, None, List, [], ◌∷◌, ◌++◌, length, refl, sym, ap, subst, arith, true≢false}
use Rattle.std.proofs.lemmas.Int.{ints}
use Rattle.cps_model.specs.declared.bound.Bound.{Bound}
use Rattle.cps_model.specs.declared.bound.Bound.TheVariants.{At, Infinite}
use Rattle.cps_literal.specs.declared.atom.Atom.{Atom}
use Rattle.cps_instance.specs.Problem.{Problem}
use Rattle.cps_log.specs.declared.item.LogItem.{LogItem}
use Rattle.cps_log.specs.declared.item.LogItem.TheVariants as items
use Rattle.cps_log.specs.Deriving.{empty_derivation}
use Rattle.cps_log.specs.Runs.{AreTrueItems, IsClosedLog, learnt_in}
use Rattle.cps_tracer.specs.Traced.{Traced, before, sums_in}
use Rattle.cps_tracer.proofs.Items.{true_items-weaker}
use Rattle.cps_port.specs.Order.{BoundLe, IsBelow}
use Rattle.cps_clauses.specs.declared.journal.JournalItem.{JournalItem}
use Rattle.cps_clauses.specs.declared.journal.JournalItem.TheVariants.{Learnt, Drop}
use Rattle.cps_clauses.specs.Journals.{drops}
use Rattle.cps_search.specs.declared.end.End.{End}
use Rattle.cps_search.specs.declared.end.Phase.{Phase}
use Rattle.cps_search.specs.declared.end.Phase.TheVariants.{Stepping, Deciding, Over}
use Rattle.cps_search.specs.LogItems.{AreSumsOf, IsUngrown}
use Rattle.cps_search.specs.Logged.{Log, ClosesAtEnd, IsBlankLog, IsClosingEnd, IsLogAt, IsLogOfRun, IsTrueLog, clauses_learnt, items_of}
use Rattle.cps_instance.specs.declared.task.Task.{Task}
use Rattle.cps_trail.specs.Trail.{Domains, Trail}
use Rattle.cps_search.specs.Lessons.{GoesBack}
use Rattle.cps_search.specs.Moves.{moved, with_log}
use Rattle.cps_search.specs.Searches.{Search, IsSoundSearch}
use Rattle.cps_search.specs.Logging.{ClosesLogIfKept, IsClosedIfKept, IsGivenByNamed, IsOpenIfKept, IsSearchedBelow, LogsLearnt, LogsLearntIfKept, opened}

pub some_then : {X : Type 0} (P Q : X → Type 0) (o : Option X) → ((x : X) → P x → Q x) → IfSome o P → IfSome o Q
some_then P Q None f h = tt
some_then P Q (Some x) f h = f x h

-- ---- z falls

infinite_before : (y z : Bound) → BoundLe y z → y ≡ Infinite → z ≡ Infinite
infinite_before (At v) z h e = absurd (cc)
infinite_before Infinite (At v) h e = absurd h
infinite_before Infinite Infinite h e = refl

below_before : (y z : Bound) (v : ℤ) → BoundLe y z → IsBelow v y → IsBelow v z
below_before y Infinite v h k = tt
below_before (At u) (At w) v h k = omega (arith, ints)
below_before Infinite (At w) v h k = absurd h

true_lower : (p : Problem) (y z : Bound) (core : List ℤ) (learnt : List (List Atom)) (t : Traced) → BoundLe y z → IsTrueLog p z core learnt t → IsTrueLog p y core learnt t
true_lower p y z core learnt t less h = record {
  about = h.about;
  items = true_items-weaker p.model (λ r. z ≡ Infinite → Contains core r) (λ r. y ≡ Infinite → Contains core r) (λ v. IsBelow v z) (λ v. IsBelow v y) empty_derivation t.items
      (λ r rests e. rests (infinite_before y z less e)) (λ v k. below_before y z v less k) h.items;
  learnt_are = h.learnt_are;
  sums = h.sums;
}

-- the log of a search whose bound falls
pub logged_lower : (p : Problem) (y z : Bound) (core : List ℤ) (journal : List JournalItem) (phase : Phase) (log : Option Log) → BoundLe y z → IfSome log (IsLogAt p z core journal phase) → IfSome log (IsLogAt p y core journal Stepping)
logged_lower p y z core journal phase log less =
    some_then (IsLogAt p z core journal phase) (IsLogAt p y core journal Stepping) log (λ l h. record {
      ungrown = h.ungrown;
      is_true = true_lower p y z core (clauses_learnt journal) l.traced less h.is_true;
      closed = h.closed;
      no_core = h.no_core;
      ends = tt;
    })

-- ---- the phase changes

pub logged_phase : (p : Problem) (z : Bound) (core : List ℤ) (journal : List JournalItem) (old new : Phase) (log : Option Log) → IfSome log (λ l. ClosesAtEnd l.closed new) → IfSome log (IsLogAt p z core journal old) → IfSome log (IsLogAt p z core journal new)
logged_phase p z core journal old new None ends h = tt
logged_phase p z core journal old new (Some l) ends h = record { ungrown = h.ungrown; is_true = h.is_true; closed = h.closed; no_core = h.no_core; ends = ends }

pub logged_stepping : (p : Problem) (z : Bound) (core : List ℤ) (journal : List JournalItem) (old : Phase) (log : Option Log) → IfSome log (IsLogAt p z core journal old) → IfSome log (IsLogAt p z core journal Stepping)
logged_stepping p z core journal old None h = tt
logged_stepping p z core journal old (Some l) h = record { ungrown = h.ungrown; is_true = h.is_true; closed = h.closed; no_core = h.no_core; ends = tt }

-- an end that leaves nothing to find, where the log is closed
pub closes : (end : End) (log : Option Log) → IsClosingEnd end → IsClosedIfKept log → IfSome log (λ l. ClosesAtEnd l.closed (Over end))
closes end None so h = tt
closes end (Some l) so h = (λ _. so, λ _. h)

-- ---- journals

pub learnt-pushed : (journal : List JournalItem) (clause : List Atom) (below : Bound) → clauses_learnt (journal ++ Learnt clause below ∷ []) ≡ clauses_learnt journal ++ clause ∷ []
learnt-pushed [] clause below = refl
learnt-pushed (Learnt c b ∷ journal) clause below = ap (λ (cs : List (List Atom)). c ∷ cs) (learnt-pushed journal clause below)
learnt-pushed (Drop i ∷ journal) clause below = learnt-pushed journal clause below

-- ---- what a learnt clause gives

some_atoms_of : (clause : List Atom) → 1 ≤ length clause → clause ≡ [] → ⊥
some_atoms_of [] h e = absurd (omega (arith, h))
some_atoms_of (t ∷ ts) h e = absurd (cc)

pub some_atoms : (clause : List Atom) → 1 ≤ length clause → clause ≡ [] → ⊥
some_atoms clause h e = some_atoms_of clause h e

pub learnt-dropped : (journal : List JournalItem) (ns : List ℕ) → clauses_learnt (journal ++ drops ns) ≡ clauses_learnt journal
learnt-dropped [] [] = refl
learnt-dropped [] (n ∷ ns) = learnt-dropped [] ns
learnt-dropped (Learnt c b ∷ journal) ns = ap (λ (cs : List (List Atom)). c ∷ cs) (learnt-dropped journal ns)
learnt-dropped (Drop i ∷ journal) ns = learnt-dropped journal ns

not_both : (b : Bool) → b ≡ false → b ≡ true → ⊥
not_both b f t = true≢false (sym t ∙ f)

logged_one : (p : Problem) (z : Bound) (core : List ℤ) (old left : List JournalItem) (phase : Phase) (clause : List Atom) (l m : Log) → clauses_learnt left ≡ clauses_learnt old → (clause ≡ [] → ⊥) → IsLogAt p z core old phase l → LogsLearnt p z clause l m → IsLogAt p z core (left ++ Learnt clause z ∷ []) Stepping m
logged_one p z core old left phase clause l m same some h logs = record {
  ungrown = h.ungrown;
  is_true = subst (λ (cs : List (List Atom)). IsTrueLog p z core cs m.traced) (sym (learnt-pushed left clause z ∙ ap (λ (cs : List (List Atom)). cs ++ clause ∷ []) same)) (logs.stays some core (clauses_learnt old) h.is_true);
  closed = (λ shut. absurd (not_both m.closed logs.still_open shut), λ shut. absurd (logs.stays_open some shut));
  no_core = λ _. h.no_core logs.was_open;
  ends = tt;
}

-- the log has one learnt clause more, and so has the journal
pub logged_learnt : (p : Problem) (z : Bound) (core : List ℤ) (old left : List JournalItem) (phase : Phase) (clause : List Atom) (log next : Option Log) → clauses_learnt left ≡ clauses_learnt old → (clause ≡ [] → ⊥) → IfSome log (IsLogAt p z core old phase)
    → LogsLearntIfKept p z clause log next → IfSome next (IsLogAt p z core (left ++ Learnt clause z ∷ []) Stepping)
logged_learnt p z core old left phase clause None next same some h logs = subst (λ (o : Option Log). IfSome o (IsLogAt p z core (left ++ Learnt clause z ∷ []) Stepping)) (sym logs) tt
logged_learnt p z core old left phase clause (Some l) None same some h logs = absurd logs
logged_learnt p z core old left phase clause (Some l) (Some m) same some h logs = logged_one p z core old left phase clause l m same some h logs

-- ---- the log is closed

pub logged_closed : (p : Problem) (z : Bound) (before core : List ℤ) (journal : List JournalItem) (phase : Phase) (log next : Option Log) → IfSome log (IsLogAt p z before journal phase) → ClosesLogIfKept p z core log next → IfSome next (IsLogAt p z core journal Stepping)
logged_closed p z before core journal phase None next h closes = subst (λ (o : Option Log). IfSome o (IsLogAt p z core journal Stepping)) (sym closes) tt
logged_closed p z before core journal phase (Some l) None h closes = absurd closes
logged_closed p z before core journal phase (Some l) (Some m) h closes = record {
  ungrown = h.ungrown;
  is_true = closes.stays (clauses_learnt journal) (subst (λ (rs : List ℤ). IsTrueLog p z rs (clauses_learnt journal) l.traced) (h.no_core closes.was_open) h.is_true);
  closed = (λ _. closes.last, λ _. closes.is_closed);
  no_core = λ none. absurd (not_both m.closed none closes.is_closed);
  ends = tt;
}

pub closed_log : (p : Problem) (z : Bound) (core : List ℤ) (log next : Option Log) → ClosesLogIfKept p z core log next → IsClosedIfKept next
closed_log p z core None next closes = subst (λ (o : Option Log). IsClosedIfKept o) (sym closes) tt
closed_log p z core (Some l) None closes = absurd closes
closed_log p z core (Some l) (Some m) closes = closes.is_closed

pub closed_kept : (p : Problem) (z : Bound) (core : List ℤ) (log next : Option Log) → ClosesLogIfKept p z core log next → is_some next ≡ is_some log
closed_kept p z core None next closes = ap (λ (o : Option Log). is_some o) closes
closed_kept p z core (Some l) None closes = absurd closes
closed_kept p z core (Some l) (Some m) closes = refl

pub learnt_kept : (p : Problem) (z : Bound) (clause : List Atom) (log next : Option Log) → LogsLearntIfKept p z clause log next → is_some next ≡ is_some log
learnt_kept p z clause None next logs = ap (λ (o : Option Log). is_some o) logs
learnt_kept p z clause (Some l) None logs = absurd logs
learnt_kept p z clause (Some l) (Some m) logs = refl

-- ---- phases

pub goes_on : (log : Option Log) → IfSome log (λ l. ClosesAtEnd l.closed Deciding)
goes_on None = tt
goes_on (Some l) = tt

pub steps_on : (log : Option Log) → IfSome log (λ l. ClosesAtEnd l.closed Stepping)
steps_on None = tt
steps_on (Some l) = tt

-- an end that leaves something to find, where the log is open
pub stays_open : (end : End) (log : Option Log) → (IsClosingEnd end → ⊥) → IsOpenIfKept log → IfSome log (λ l. ClosesAtEnd l.closed (Over end))
stays_open end None not h = tt
stays_open end (Some l) not h = (λ shut. absurd (not_both l.closed h shut), λ closing. absurd (not closing))

pub none_logged : (P : Log → Type 0) (log : Option Log) → is_some log ≡ false → IfSome log P
none_logged P None h = tt
none_logged P (Some l) h = absurd (true≢false h)

-- ---- the begin and the end

no_sums : (p : Problem) → AreSumsOf p []
no_sums p = record { within = omega arith; each = λ k s e l. absurd (omega (arith, l)) }

not_closed : (log : List LogItem) → log ≡ [] → IsClosedLog log → ⊥
not_closed log none h = no_append h.before (items.Learnt []) (sym none ∙ h.is) where
  no_append : (xs : List LogItem) (x : LogItem) → [] ≡ xs ++ x ∷ [] → ⊥
  no_append [] x e = absurd (cc)
  no_append (y ∷ xs) x e = absurd (cc)

pub logged_blank : (p : Problem) (t : Traced) → IsBlankLog p t → IsLogAt p Infinite [] [] Stepping (record { traced = t; closed = false })
logged_blank p t h = record {
  ungrown = h.ungrown;
  is_true = record {
    about = h.about;
    items = subst (λ (log : List LogItem). AreTrueItems p.model (λ r. Infinite ≡ Infinite → Contains [] r) (λ v. IsBelow v Infinite) empty_derivation log) (sym h.blank) tt;
    learnt_are = ap (λ (log : List LogItem). learnt_in log) h.blank;
    sums = subst (λ (log : List LogItem). AreSumsOf p (sums_in log)) (sym h.blank) (no_sums p);
  };
  closed = (λ shut. absurd (true≢false (sym shut)), λ shut. absurd (not_closed t.items h.blank shut));
  no_core = λ _. refl;
  ends = tt;
}

pub log_of_run : (p : Problem) (z : Bound) (core : List ℤ) (journal : List JournalItem) (phase : Phase) (end : End) (log : Option Log) → phase ≡ Over end → IfSome log (IsLogAt p z core journal phase) → IfSome (items_of log) (IsLogOfRun p.model z core journal end)
log_of_run p z core journal phase end None over h = tt
log_of_run p z core journal phase end (Some l) over h =
    let ends : (l.closed ≡ true) ↔ IsClosingEnd end = subst (λ (x : Phase). ClosesAtEnd l.closed x) over h.ends in
    record {
      items = h.is_true.items;
      learnt_are = h.is_true.learnt_are;
      closed = (λ shut. ends.0 (h.closed.1 shut), λ closing. h.closed.0 (ends.1 closing));
    }

-- ---- what a log shows of its search

ungrown_of : (p : Problem) (z : Bound) (core : List ℤ) (journal : List JournalItem) (phase : Phase) (log : Option Log) → IfSome log (IsLogAt p z core journal phase) → is_some log ≡ true → IsUngrown p
ungrown_of p z core journal phase None h some = absurd (true≢false (sym some))
ungrown_of p z core journal phase (Some l) h some = h.ungrown

pub ungrown : (s : Search) → IsSoundSearch s → is_some s.log ≡ true → IsUngrown s.instance
ungrown s h = ungrown_of s.instance s.z s.core s.base.journal s.phase s.log h.logged

pub searched : (s : Search) → IsSoundSearch s → is_some s.log ≡ true → IsSearchedBelow s.instance s.z s.tasks s.store
searched s h some = record { ungrown = ungrown s h some; tasks_are = h.tasks; domains = h.domains }

about_of : (p : Problem) (z : Bound) (core : List ℤ) (journal : List JournalItem) (phase : Phase) (log : Option Log) → IfSome log (IsLogAt p z core journal phase) → IfSome log (λ l. l.traced.assumptions ≡ p.model.assumptions)
about_of p z core journal phase None h = tt
about_of p z core journal phase (Some l) h = h.is_true.about.assumptions

pub about_model : (s : Search) → IsSoundSearch s → IfSome s.log (λ l. l.traced.assumptions ≡ s.instance.model.assumptions)
about_model s h = about_of s.instance s.z s.core s.base.journal s.phase s.log h.logged

pub with_opened : (log : Option Traced) (s : Search) → s.log ≡ None → record s { log = opened log } ≡ with_log log s
with_opened None s none = ap (λ (o : Option Log). record s { log = o }) (sym none)
with_opened (Some t) s none = refl

-- what a task gives it gives in a store that went back, too
pub given_there : (r mid : Search) (task : Option ℕ) (clause : List Atom) → mid ≡ moved r mid.store mid.rested → ((level : ℕ) × GoesBack r.store mid.store level) → IsGivenByNamed r.tasks r.store.first task clause → IsGivenByNamed mid.tasks mid.store.first task clause
given_there r mid task clause is back h =
    subst (λ (ts : List Task). IsGivenByNamed ts mid.store.first task clause) (sym (ap (λ (x : Search). x.tasks) is))
    (subst (λ (ds : Domains). IsGivenByNamed r.tasks ds task clause) (sym (ap (λ (x : Trail). x.first) back.1.is)) h)

pub with_log_refused : (log : Option Traced) (s : Search) → (with_log log s).refused ≡ s.refused
with_log_refused None s = refl
with_log_refused (Some t) s = refl
