-- The log that a search keeps, where one was asked for: each item says what is so of the model below z, the learnt
-- clauses are the journal's, and the empty clause comes last just where the search ended with nothing left to find.
use Rattle.std.specs.Prelude.{◌≡◌, ◌↔◌, ℤ, Bool, true, false, Option, Some, None, List, [], ◌∷◌, Contains}
use Rattle.cps_model.specs.declared.bound.Bound.{Bound}
use Rattle.cps_model.specs.declared.bound.Bound.TheVariants.{Infinite}
use Rattle.cps_model.specs.declared.model.CpModel.{CpModel}
use Rattle.cps_literal.specs.declared.atom.Atom.{Atom}
use Rattle.cps_instance.specs.Problem.{Problem}
use Rattle.cps_log.specs.declared.item.LogItem.{LogItem}
use Rattle.cps_log.specs.Deriving.{empty_derivation}
use Rattle.cps_log.specs.Runs.{AreTrueItems, IsClosedLog, IsLogOf, learnt_in}
use Rattle.cps_tracer.specs.Traced.{Traced, IsAbout, sums_in}
use Rattle.cps_port.specs.Order.{IsBelow}
use Rattle.cps_clauses.specs.declared.journal.JournalItem.{JournalItem}
use Rattle.cps_clauses.specs.declared.journal.JournalItem.TheVariants.{Learnt, Drop}
use Rattle.cps_search.specs.declared.end.End.{End}
use Rattle.cps_search.specs.declared.end.End.TheVariants.{Exhausted, SawClosed, Spent, RoundsDone}
use Rattle.cps_search.specs.declared.end.Phase.{Phase}
use Rattle.cps_search.specs.declared.end.Phase.TheVariants.{Stepping, Deciding, Over}
use Rattle.cps_search.specs.LogItems.{IsUngrown, AreSumsOf}

-- what is traced so far, and whether the empty clause closed it
pub record Log : Type 0 where
  pub traced : Traced
  pub closed : Bool

-- the items of a log, if one is kept
abbrev pub items_of : Option Log → Option (List LogItem)
items_of None = None
items_of (Some l) = Some l.traced.items

-- the clauses that a journal says were learnt, in order, those that were dropped too
abbrev pub clauses_learnt : List JournalItem → List (List Atom)
clauses_learnt [] = []
clauses_learnt (Learnt clause below ∷ items) = clause ∷ clauses_learnt items
clauses_learnt (Drop i ∷ items) = clauses_learnt items

-- What the items of a log say is so, below z, with these assumptions where no incumbent is known. Its sums are the
-- first ones of the instance, and it learnt these clauses.
pub record IsTrueLog (p : Problem) (z : Bound) (core : List ℤ) (learnt : List (List Atom)) (t : Traced) : Type 0 where
  pub about : IsAbout p.model t
  pub items : AreTrueItems p.model (λ r. z ≡ Infinite → Contains core r) (λ v. IsBelow v z) empty_derivation t.items
  pub learnt_are : learnt_in t.items ≡ learnt
  pub sums : AreSumsOf p (sums_in t.items)

-- items were appended that say what is so, of which none is a learnt clause
pub record Grows (p : Problem) (z : Bound) (t u : Traced) : Type 0 where
  pub stays : (core : List ℤ) (learnt : List (List Atom)) → IsTrueLog p z core learnt t → IsTrueLog p z core learnt u
  pub stays_open : (IsClosedLog t.items → ⊥) → IsClosedLog u.items → ⊥

-- an end that leaves nothing to find
abbrev pub IsClosingEnd : End → Type 0
IsClosingEnd Exhausted = Unit {0}
IsClosingEnd SawClosed = Unit {0}
IsClosingEnd (Spent clause below) = ⊥
IsClosingEnd RoundsDone = ⊥

-- the log of a search that ended is closed just where the end leaves nothing to find
abbrev pub ClosesAtEnd : Bool → Phase → Type 0
ClosesAtEnd closed Stepping = Unit {0}
ClosesAtEnd closed Deciding = Unit {0}
ClosesAtEnd closed (Over end) = (closed ≡ true) ↔ IsClosingEnd end

-- the log of a search of a problem below z, which has this core, journal and phase
pub record IsLogAt (p : Problem) (z : Bound) (core : List ℤ) (journal : List JournalItem) (phase : Phase) (l : Log) : Type 0 where
  pub ungrown : IsUngrown p
  pub is_true : IsTrueLog p z core (clauses_learnt journal) l.traced
  pub closed : (l.closed ≡ true) ↔ IsClosedLog l.traced.items
  -- assumptions are taken only where the log is closed
  pub no_core : l.closed ≡ false → core ≡ []
  pub ends : ClosesAtEnd l.closed phase

-- the log of a run that ended so, below z: it rests on the core where no incumbent is known
abbrev pub IsLogOfRun : CpModel → Bound → List ℤ → List JournalItem → End → List LogItem → Type 0
IsLogOfRun m z core journal end log = IsLogOf m (λ r. z ≡ Infinite → Contains core r) (λ v. IsBelow v z)
    (clauses_learnt journal) (IsClosingEnd end) log

-- a log without an item, of an instance to which no sum was added
pub record IsBlankLog (p : Problem) (t : Traced) : Type 0 where
  pub ungrown : IsUngrown p
  pub about : IsAbout p.model t
  pub blank : t.items ≡ []
