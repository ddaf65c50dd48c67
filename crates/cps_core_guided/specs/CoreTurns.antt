-- What a core-guided worker does in a turn and in a run, and one that has ended, as others see it.
use Rattle.std.specs.Prelude.{◌≡◌, ◌⊎◌, ℕ, ◌+◌, ◌<◌, ◌≤◌, ◌^◌, ℤ, ◌≤ℤ◌, ◌<ℤ◌, Bool, true, false, Option, Some, None, IfSome, IsSome, List, [], ◌++◌, length, All}
use Rattle.cps_model.specs.declared.bound.Bound.{Bound}
use Rattle.cps_model.specs.declared.bound.Bound.TheVariants.{At, Infinite}
use Rattle.cps_literal.specs.declared.atom.Atom.{Atom}
use Rattle.cps_instance.specs.Problem.{Problem}
use Rattle.cps_instance.specs.Posting.{objective_terms}
use Rattle.cps_instance.specs.Sums.{DefinedSum}
use Rattle.cps_trail.specs.Trail.{Trail, open_values}
use Rattle.cps_branch.specs.Choice.{IsUndecided}
use Rattle.cps_branch.specs.Scope.{Scope, IsScopeOf}
use Rattle.cps_port.specs.declared.part.BoardPart.{BoardPart}
use Rattle.cps_port.specs.declared.part.Part.{Part}
use Rattle.cps_port.specs.Entries.{most_rows}
use Rattle.cps_port.specs.Order.{BoundLe, raised_to}
use Rattle.cps_port.specs.Parts.{after_raise}
use Rattle.cps_search.specs.declared.end.End.{End}
use Rattle.cps_search.specs.declared.end.Phase.TheVariants.{Stepping, Over}
use Rattle.cps_search.specs.declared.end.WorkerKind.TheVariants.{CoreGuided}
use Rattle.cps_search.specs.declared.turn.Turn.{Turn}
use Rattle.cps_search.specs.declared.turn.Turn.TheVariants as turns
use Rattle.cps_search.specs.Assumptions.{IsAssumedNext, NoneIsOpen}
use Rattle.cps_search.specs.declared.end.End.TheVariants as ends
use Rattle.cps_search.specs.Ends.{BrancherTurn, DecidedBy, EndsAs, EndsBy, Ending, HeardOne, end_of, ending}
use Rattle.cps_search.specs.Following.{MovesWith}
use Rattle.cps_search.specs.Growing.{AreBehindIn}
use Rattle.cps_search.specs.Lessons.{GoesBack}
use Rattle.cps_search.specs.Moves.{fresh, moved, decided}
use Rattle.cps_search.specs.Searches.{Search, NoneBelow}
use Rattle.cps_search.specs.Turns.{DecisionDue, ExhaustedAll, FoundOne, GoesOnAndBack, IsLess, LearntOne, SameBest, SameCore, SameImported, SameLearnt, SameRaised, SameSetting, SawMet, SpentAll, TookOne}
use Rattle.cps_reform.specs.Forms.{Form, term_at}
use Rattle.cps_reform.specs.Beginning.{IsFirstForm}
use Rattle.cps_reform.specs.Marks.{assumed}
use Rattle.cps_core_guided.specs.Beginning.{IsOpposite}
use Rattle.cps_core_guided.specs.Assuming.{AreAssumed, IsFailed, IsFirstOpenTerm, NoTermFails}
use Rattle.cps_reform.specs.Floors.{IsFormPast}
use Rattle.cps_core_guided.specs.Reforming.{CoreSearch, IsSoundCore, ReformsTo, most_sums, whole, whole_core}

-- what no turn changes: the problem gains sums alone, in a reform
pub record SameCoreSetting (s t : CoreSearch) : Type 0 where
  pub model : t.search.instance.model ≡ s.search.instance.model
  pub gap : t.search.gap ≡ s.search.gap
  pub budget : t.search.budget ≡ s.search.budget
  pub refused : t.search.refused ≡ s.search.refused
  pub greatest : t.greatest ≡ s.greatest

-- Which atom a core-guided worker decides, where no assumption of a term fails: the first assumption of the model that
-- is undecided; where none is, the first of a term that is; and what the brancher chooses where all of them are true,
-- or nothing is assumed of terms any more.
pub data DecidesOf (chooses : Trail → Option Atom → Type 0) (s : CoreSearch) (m : Trail) (t : Atom) : Type 0 where
  of_the_model : (s.sums < most_sums → NoTermFails m s.form.terms)
      → IsAssumedNext s.search.instance.model.assumptions m t → DecidesOf chooses s m t
  of_a_term : NoneIsOpen s.search.instance.model.assumptions m → s.sums < most_sums → NoTermFails m s.form.terms
      → (place : ℕ) → IsFirstOpenTerm m s.form.terms place → t ≡ assumed (term_at s.form.terms place)
      → DecidesOf chooses s m t
  a_choice : NoneIsOpen s.search.instance.model.assumptions m
      → (s.sums < most_sums → AreAssumed m.first m.entries s.form.terms) → chooses m (Some t) → DecidesOf chooses s m t

-- Where a decision was due, one was made: an assumption, or what the brancher chose.
pub record DecidesFrom (chooses : Trail → Option Atom → Type 0) (m t : CoreSearch) (p q : Part) : Type 0 where
  pub atom : Atom
  pub undecided : IsUndecided m.search.store atom
  pub chosen : DecidesOf chooses m m.search.store atom
  pub is : t ≡ record m { search = moved m.search (decided m.search.store atom) m.search.rested }
  pub part : q ≡ p

-- Where a decision was due, the assumption of a term fails: the search went back to level 0, and the objective would be
-- reformed by the decisions behind that assumption.
pub record FailsFrom (m t : CoreSearch) (form : Form) (more : ℕ) : Type 0 where
  pub few : m.sums < most_sums
  pub place : ℕ
  pub failed : IsFailed m.search.store m.form.terms place
  pub decisions : List Atom
  pub behind : AreBehindIn m.search (assumed (term_at m.form.terms place)) decisions
  pub bottom : Trail
  pub back : GoesBack m.search.store bottom 0
  pub reforms : ReformsTo bottom m.search.instance m.form place decisions t.search.instance form more
  pub entries : t.search.store.entries ≡ bottom.entries
  pub level : t.search.store.level ≡ 0
  pub sums : t.sums ≡ m.sums + more
  pub setting : SameCoreSetting m t
  pub z : t.search.z ≡ m.search.z
  pub learnt : SameLearnt m.search t.search
  pub imported : SameImported m.search t.search
  pub best : SameBest m.search t.search
  pub search_raised : SameRaised m.search t.search
  pub search_core : SameCore m.search t.search
  pub phase : t.search.phase ≡ Stepping

-- The lower bound was raised to a bound, and nothing else was done to the shared state.
pub record RaisesTo (bound : Bound) (m t : CoreSearch) (p q : Part) : Type 0 where
  pub raised : t.raised ≡ raised_to m.raised bound
  pub seen : Bound
  pub at_least : BoundLe bound seen
  pub told : q.bounds ≡ after_raise p.bounds bound seen
  pub board : q.board ≡ p.board

-- The worker reformed: the base rose to the value that the turn carries, below z, and the lower bound was raised to it.
pub record ReformsFrom (m t : CoreSearch) (p q : Part) (base : ℤ) : Type 0 where
  pub more : ℕ
  pub fails : FailsFrom m t t.form more
  pub is : t.form.base ≡ base
  pub rises : m.form.base <ℤ base
  pub not_past : IsFormPast t.search.z t.greatest t.search.instance.domains t.form → ⊥
  pub raises : RaisesTo (At base) m t p q
  pub ended : t.ended ≡ false

-- The worker is exhausted in place of a reform: no solution below z can have the form that the reform would come to.
-- The lower bound was raised to z. Where no incumbent is known, it ends by all assumptions.
pub record ExhaustsFrom (m t : CoreSearch) (p q : Part) : Type 0 where
  pub form : Form
  pub more : ℕ
  pub fails : FailsFrom m t form more
  pub past : IsFormPast t.search.z t.greatest t.search.instance.domains form
  pub none_below : NoneBelow m.search.instance.model t.search.z
  pub raises : RaisesTo t.search.z m t p q
  pub ended : t.ended ≡ true
  pub core : t.core ≡ whole_core m.search.instance.model t.search.z

-- what a core-guided worker does where a decision is due
abbrev pub GoesOn : (Trail → Option Atom → Type 0) → CoreSearch → CoreSearch → Part → Part → Turn → Type 0
GoesOn chooses m t p q turns.Decided = DecidesFrom chooses m t p q
GoesOn chooses m t p q (turns.Reformed base) = ReformsFrom m t p q base
GoesOn chooses m t p q turns.Exhausted = ExhaustsFrom m t p q
GoesOn chooses m t p q turns.Imported = ⊥
GoesOn chooses m t p q turns.Learnt = ⊥
GoesOn chooses m t p q turns.Found = ⊥
GoesOn chooses m t p q turns.SawClosed = ⊥
GoesOn chooses m t p q (turns.Spent clause below) = ⊥
GoesOn chooses m t p q turns.RoundsDone = ⊥

-- a turn came to where a decision is due, over the same problem, and went on from there
pub record FromDue (s : CoreSearch) (rows : ℕ) (p : Part) (goes_on : CoreSearch → Part → Type 0) : Type 0 where
  pub midway : CoreSearch
  pub part : Part
  pub due : DecisionDue s.search midway.search rows p part
  pub setting : SameSetting s.search midway.search
  pub same : midway ≡ record s { search = midway.search }
  pub on : goes_on midway part

-- a turn of the frame alone, over the same problem
pub record ByFrame (s t : CoreSearch) (cause : Type 0) : Type 0 where
  pub caused : cause
  pub setting : SameSetting s.search t.search
  pub same : t ≡ record s { search = t.search }

-- the cause of a turn of a core-guided worker whose brancher chooses so
abbrev pub CoreCaused : (Trail → Option Atom → Type 0) → CoreSearch → CoreSearch → ℕ → Part → Part → Turn → Type 0
CoreCaused chooses s t rows p q turns.Imported = ByFrame s t (TookOne s.search t.search rows p q)
CoreCaused chooses s t rows p q turns.Decided = FromDue s rows p (λ m o. DecidesFrom chooses m t o q)
CoreCaused chooses s t rows p q turns.Learnt = ByFrame s t (LearntOne s.search t.search rows p q)
CoreCaused chooses s t rows p q turns.Found = ByFrame s t (FoundOne s.search t.search rows p q)
CoreCaused chooses s t rows p q turns.Exhausted = ByFrame s t (ExhaustedAll s.search t.search rows p q)
    ⊎ FromDue s rows p (λ m o. ExhaustsFrom m t o q)
CoreCaused chooses s t rows p q turns.SawClosed = ByFrame s t (SawMet s.search t.search p q)
CoreCaused chooses s t rows p q (turns.Spent clause below) = ByFrame s t
    (SpentAll s.search t.search rows p q clause below)
CoreCaused chooses s t rows p q turns.RoundsDone = ⊥
CoreCaused chooses s t rows p q (turns.Reformed base) = FromDue s rows p (λ m o. ReformsFrom m t o q base)

-- Why a worker does not go on for ever: of conflicts to learn from, z, the room of the base under the greatest
-- objective, rows to take and open values, in this order, the first that a turn changes gets less; and each turn but
-- the last changes one.
pub data LowersCore (s t : CoreSearch) (rows : ℕ) (p q : BoardPart) : Type 0 where
  fewer_conflicts : (budget : ℕ) → s.search.budget ≡ Some budget → s.search.tally < budget
      → t.search.tally ≡ s.search.tally + 1 → LowersCore s t rows p q
  lesser_z : t.search.tally ≡ s.search.tally → IsLess t.search.z s.search.z → LowersCore s t rows p q
  higher_base : t.search.tally ≡ s.search.tally → BoundLe t.search.z s.search.z → s.form.base <ℤ t.form.base
      → t.form.base ≤ℤ t.greatest → LowersCore s t rows p q
  fewer_rows : t.search.tally ≡ s.search.tally → BoundLe t.search.z s.search.z → t.form.base ≡ s.form.base
      → length p.taken < rows → length q.taken ≡ length p.taken + 1 → LowersCore s t rows p q
  fewer_values : t.search.tally ≡ s.search.tally → BoundLe t.search.z s.search.z → t.form.base ≡ s.form.base
      → length q.taken ≡ length p.taken
      → open_values t.search.store.first t.search.store.entries < open_values s.search.store.first s.search.store.entries → LowersCore s t rows p q

-- a turn that may add what was not inferred, or go back to level 0 over a greater problem
abbrev pub IsOwn : Turn → Type 0
IsOwn turn = (turn ≡ turns.Decided) ⊎ ((turn ≡ turns.Exhausted) ⊎ ((base : ℤ) × (turn ≡ turns.Reformed base)))

-- what each turn of a core-guided worker does
pub record TakesCoreTurn (chooses : Trail → Option Atom → Type 0) (s t : CoreSearch) (rows : ℕ) (p q : Part) (turn : Turn) : Type 0 where
  pub running : s.ended ≡ false
  pub setting : SameCoreSetting s t
  pub store : (IsOwn turn → ⊥) → GoesOnAndBack s.search.store t.search.store
  pub cause : CoreCaused chooses s t rows p q turn
  pub moves : MovesWith (whole s) (whole t) p q
  pub ends : EndsAs (end_of turn) (whole t)
  pub lowers : end_of turn ≡ None → LowersCore s t rows p.board q.board

-- one turn of a core-guided worker whose search is sound before and after it and whose brancher has these rules, and
-- what it does to the brancher
pub record OneCoreTurn {B : Type 0} (chooses : B → Trail → Option Atom → Type 0) (hears : B → List Atom → Bool → B → Type 0) (stays : B → B → Type 0) (rows : ℕ) (s t : CoreSearch × B) (p q : Part) (turn : Turn) : Type 0 where
  pub before : IsSoundCore s.0
  pub after : IsSoundCore t.0
  pub search : TakesCoreTurn (chooses s.1) s.0 t.0 rows p q turn
  pub brancher : BrancherTurn turn (HeardOne (λ clause restart. hears s.1 clause restart t.1) s.0.search t.0.search)
      (DecidedBy (stays s.1 t.1) (t.1 ≡ s.1)) (t.1 ≡ s.1)

-- turns one after another, none of which ended the worker
pub data TakesCoreTurns {B : Type 0} (chooses : B → Trail → Option Atom → Type 0) (hears : B → List Atom → Bool → B → Type 0) (stays : B → B → Type 0) (rows : ℕ) (s : CoreSearch × B) (p : Part) : CoreSearch × B → Part → Type 0 where
  no_turn : TakesCoreTurns chooses hears stays rows s p s p
  one_turn_more : (m t : CoreSearch × B) (n q : Part) (turn : Turn) → TakesCoreTurns chooses hears stays rows s p m n
      → end_of turn ≡ None → OneCoreTurn chooses hears stays rows m t n q turn
      → TakesCoreTurns chooses hears stays rows s p t q

-- a run of a core-guided worker: turns one after another, of which the last ended it so
pub record RunsInCoreTurns {B : Type 0} (chooses : B → Trail → Option Atom → Type 0) (hears : B → List Atom → Bool → B → Type 0) (stays : B → B → Type 0) (rows : ℕ) (s t : CoreSearch × B) (p q : Part) (end : End) : Type 0 where
  pub before : CoreSearch × B
  pub part : Part
  pub turns : TakesCoreTurns chooses hears stays rows s p before part
  pub turn : Turn
  pub last : OneCoreTurn chooses hears stays rows before t part q turn
  pub ended : end_of turn ≡ Some end

-- no bound was raised to `Infinite`, and no core is known
pub record HasNoCore (s : CoreSearch) : Type 0 where
  pub frame : s.search.raised ≡ Some Infinite → ⊥
  pub own : s.raised ≡ Some Infinite → ⊥
  pub core : s.search.core ≡ []

-- The lower bound was raised to `Infinite` only where a worker is exhausted, and no incumbent is known; and only there
-- it has a core.
pub record HasCoreAt (end : End) (t : Search) : Type 0 where
  pub only_there : t.raised ≡ Some Infinite → (end ≡ ends.Exhausted) × (t.z ≡ Infinite)
  pub none : (end ≡ ends.Exhausted → ⊥) → t.core ≡ []

-- what a run of a core-guided worker does, up to its end
pub record RunsCoreTo (s t : CoreSearch) (p q : Part) (end : End) : Type 0 where
  pub setting : SameCoreSetting s t
  pub moves : MovesWith (whole s) (whole t) p q
  pub phase : (whole t).phase ≡ Over end
  pub why : EndsBy (whole t) q.bounds end
  pub core : HasNoCore s → HasCoreAt end (whole t)

-- A worker that begins: nothing is known, but that the objective is its first form, over the instance with a sum for
-- the opposite of each variable that the objective takes off.
pub record BeginsCore (p : Problem) (gap budget : ℕ) (s : CoreSearch) : Type 0 where
  pub instance : s.search.instance.model ≡ p.model
  pub opposites : List DefinedSum
  pub are_opposites : All IsOpposite opposites
  pub defines : s.search.instance.defs ≡ p.defs ++ opposites
  pub search : s.search ≡ fresh s.search.instance gap (Some budget)
  pub first : IsFirstForm s.search.instance (objective_terms p.model.objective) s.form
  pub sound : IsSoundCore s
  pub sums : s.sums ≡ 0
  pub raised : s.raised ≡ None
  pub ended : s.ended ≡ false

-- a core-guided worker that ended so, as others see it
abbrev pub core_ending : End → CoreSearch → Ending
core_ending end s = ending CoreGuided None end (whole s)

-- What a core-guided worker keeps as long as it has memory. Its brancher is of the instance, and agrees with the store
-- as long as the first `kept` entries stay.
pub record IsCoreWorking (s : CoreSearch) (scope : Scope) (agrees : ℕ → Type 0) (kept : ℕ) : Type 0 where
  pub sound : IsSoundCore s
  pub of_problem : IsScopeOf s.search.instance scope
  pub budget : IfSome s.search.budget (λ budget. budget ≤ 10 ^ 9)
  pub has_budget : IsSome s.search.budget
  pub few : s.search.imported ≤ most_rows
  pub within : kept ≤ length s.search.store.entries
  pub agreed : agrees kept
