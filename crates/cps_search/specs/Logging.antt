-- What is known where a search writes its log, and what a step of the writing does.
use Rattle.std.specs.Prelude.{◌≡◌, ℕ, ℤ, true, false, Option, Some, None, IfSome, List, [], ◌∷◌, ◌++◌, map, ⊤}
use Rattle.cps_model.specs.declared.bound.Bound.{Bound}
use Rattle.cps_literal.specs.declared.atom.Atom.{Atom}
use Rattle.cps_instance.specs.declared.task.Task.{Task}
use Rattle.cps_instance.specs.Problem.{Problem}
use Rattle.cps_trail.specs.Trail.{Domains, Trail}
use Rattle.cps_conflict.specs.declared.certifier.Antecedent.{Antecedent}
use Rattle.cps_conflict.specs.Antecedents.{AreReasons}
use Rattle.cps_conflict.specs.Leading.{IsFetched}
use Rattle.cps_tracer.specs.Traced.{Traced}
use Rattle.cps_log.specs.Runs.{IsClosedLog}
use Rattle.cps_search.specs.Giving.{IsReasonOfOne}
use Rattle.cps_search.specs.LogItems.{IsUngrown, IsGivenBy}
use Rattle.cps_search.specs.Logged.{Log, IsTrueLog, Grows}
use Rattle.cps_search.specs.declared.end.Phase.TheVariants.{Stepping}
use Rattle.cps_search.specs.Searches.{Search, IsSoundSearch, below_bound}

-- the task with a number gives a clause below z
abbrev pub IsGivenBelow : Problem → Bound → ℕ → List Atom → Type 0
IsGivenBelow p z number clause = IsGivenBy (map (below_bound z) p.tasks) number p.domains clause

-- a store of a search of a problem to which no sum was added, and its tasks below z
pub record IsSearchedBelow (p : Problem) (z : Bound) (tasks : List Task) (s : Trail) : Type 0 where
  pub ungrown : IsUngrown p
  pub tasks_are : tasks ≡ map (below_bound z) p.tasks
  pub domains : s.first ≡ p.domains

-- a log grew, and is as open as it was
pub record GrowsLog (p : Problem) (z : Bound) (l m : Log) : Type 0 where
  pub grows : Grows p z l.traced m.traced
  pub closed : m.closed ≡ l.closed

-- a clause is the reason of an entry that was kept, or one that a task or a clause gives by itself
abbrev pub IsFetchedBy : List Task → List (List Atom) → Trail → ℕ → List Atom → Type 0
IsFetchedBy tasks clauses s k reason = IsFetched (IsReasonOfOne tasks clauses s) s k reason

-- the reasons of antecedents are
abbrev pub AreFetchedBy : List Task → List (List Atom) → Trail → List Antecedent → Type 0
AreFetchedBy tasks clauses s found = AreReasons (IsFetchedBy tasks clauses s) found

-- a log grew by assumptions that may be taken
pub record AssumesLog (p : Problem) (z : Bound) (core : List ℤ) (l m : Log) : Type 0 where
  pub stays : (learnt : List (List Atom)) → IsTrueLog p z core learnt l.traced → IsTrueLog p z core learnt m.traced
  pub closed : m.closed ≡ l.closed

-- a log grew, and its last item is a learnt clause
pub record LogsLearnt (p : Problem) (z : Bound) (clause : List Atom) (l m : Log) : Type 0 where
  pub was_open : l.closed ≡ false
  pub still_open : m.closed ≡ false
  pub stays : (clause ≡ [] → ⊥) → (core : List ℤ) (learnt : List (List Atom)) → IsTrueLog p z core learnt l.traced
      → IsTrueLog p z core (learnt ++ clause ∷ []) m.traced
  pub stays_open : (clause ≡ [] → ⊥) → IsClosedLog m.traced.items → ⊥

-- a log has the empty clause behind what it had
pub record AddsEmptyClause (l m : Log) : Type 0 where
  pub is_closed : m.closed ≡ true
  pub last : IsClosedLog m.traced.items
  pub stays : (p : Problem) (z : Bound) (core : List ℤ) (learnt : List (List Atom))
      → IsTrueLog p z core learnt l.traced → IsTrueLog p z core learnt m.traced

-- a log that did not rest on assumptions grew, where these may be assumed, and its last item is the empty clause
pub record ClosesLog (p : Problem) (z : Bound) (core : List ℤ) (l m : Log) : Type 0 where
  pub was_open : l.closed ≡ false
  pub is_closed : m.closed ≡ true
  pub stays : (learnt : List (List Atom)) → IsTrueLog p z [] learnt l.traced → IsTrueLog p z core learnt m.traced
  pub last : IsClosedLog m.traced.items

-- the task that is named gives a clause within the first domains, if one is named
abbrev pub IsGivenByNamed : List Task → Domains → Option ℕ → List Atom → Type 0
IsGivenByNamed tasks first None clause = ⊤
IsGivenByNamed tasks first (Some task) clause = IsGivenBy tasks task first clause

-- ---- where a log may be kept

-- the log, if one is kept, has one learnt clause more
abbrev pub LogsLearntIfKept : Problem → Bound → List Atom → Option Log → Option Log → Type 0
LogsLearntIfKept p z clause None m = m ≡ None
LogsLearntIfKept p z clause (Some l) None = ⊥
LogsLearntIfKept p z clause (Some l) (Some m) = LogsLearnt p z clause l m

-- the log, if one is kept, was closed
abbrev pub ClosesLogIfKept : Problem → Bound → List ℤ → Option Log → Option Log → Type 0
ClosesLogIfKept p z core None m = m ≡ None
ClosesLogIfKept p z core (Some l) None = ⊥
ClosesLogIfKept p z core (Some l) (Some m) = ClosesLog p z core l m

-- a log, if one is kept, is closed, or is not
abbrev pub IsClosedIfKept : Option Log → Type 0
IsClosedIfKept log = IfSome log (λ l. l.closed ≡ true)

abbrev pub IsOpenIfKept : Option Log → Type 0
IsOpenIfKept log = IfSome log (λ l. l.closed ≡ false)

-- a log as it begins, where one was asked for
abbrev pub opened : Option Traced → Option Log
opened None = None
opened (Some t) = Some (record { traced = t; closed = false })

-- a search is sound but for its log, which has one learnt clause more
pub record HasLogged (s : Search) (clause : List Atom) : Type 0 where
  pub before : Option Log
  pub sound : IsSoundSearch (record s { log = before; phase = Stepping })
  pub logs : LogsLearntIfKept s.instance s.z clause before s.log
