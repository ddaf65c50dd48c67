-- Workers of several kinds, seen as searches: one with a brancher, one that goes by cores, or one that searches near
-- solutions in rounds.
use Rattle.std.specs.Prelude.{◌≡◌, ◌⊎◌, ⊤, ℕ, ◌+◌, ◌<◌, ◌%◌, ◌==◌, max, nat_lt, if◌then◌else◌, ℤ, Bool, true, false, Option, Some, None, IfSome, List, length, is_some}
use Rattle.rand_pcg.specs.Lcg.{Lcg}
use Rattle.cps_model.specs.declared.model.CpModel.{CpModel}
use Rattle.cps_model.specs.Solutions.{IsSolution}
use Rattle.cps_instance.specs.Problem.{Problem, IsInstance}
use Rattle.cps_instance.specs.Strategies.{model_sums}
use Rattle.cps_port.specs.declared.part.Part.{Part}
use Rattle.cps_search.specs.declared.end.End.{End}
use Rattle.cps_search.specs.declared.end.WorkerKind.{WorkerKind}
use Rattle.cps_search.specs.declared.end.WorkerKind.TheVariants as kinds
use Rattle.cps_branch.specs.declared.guidance.Guidance.{Guidance}
use Rattle.cps_search.specs.declared.turn.Turn.{Turn}
use Rattle.cps_search.specs.Searches.{Search, IsSoundSearch}
use Rattle.cps_tracer.specs.Traced.{Traced}
use Rattle.cps_options.specs.declared.options.Options.{Options}
use Rattle.cps_search.specs.Logged.{IsBlankLog}
use Rattle.cps_search.specs.Moves.{fresh, with_log}
use Rattle.cps_search.specs.Turns.{FoundOne, SameBest}
use Rattle.cps_search.specs.Guided.{IsGuidedBy}
use Rattle.cps_branch.specs.Guidances.{Branching, ChoosesAs, HearsAs, StaysAs, IsIdle, guidance_of}
use Rattle.cps_search.specs.Ends.{Ending, OneTurn, TakesTurns, end_of, ending}
use Rattle.cps_core_guided.specs.Reforming.{CoreSearch, whole}
use Rattle.cps_core_guided.specs.CoreTurns.{BeginsCore, OneCoreTurn, RunsInCoreTurns, TakesCoreTurns}
use Rattle.cps_neighbourhood.specs.Drawing.{draws_of}
use Rattle.cps_neighbourhood.specs.Nears.{Near, BeginsNear, TakesNearTurn, TakesNearTurns}
use Rattle.cps_pool.specs.Pools.{last_of, with_pushed}

-- what is known of a worker: a search of a kind that has a brancher; one that goes by cores, and by a brancher where
-- there is nothing left to assume; or one that goes in rounds
pub data AnySearch : Type 0 where
  by_brancher : WorkerKind → Branching → Search → AnySearch
  by_cores : Branching → CoreSearch → AnySearch
  in_rounds : Near → AnySearch

abbrev pub search_in : AnySearch → Search
search_in (by_brancher kind b s) = s
search_in (by_cores b s) = whole s
search_in (in_rounds n) = n.search

-- the part of it that all workers have in common, which finds its solutions
abbrev pub frame_in : AnySearch → Search
frame_in (by_brancher kind b s) = s
frame_in (by_cores b s) = s.search
frame_in (in_rounds n) = n.search

abbrev pub kind_in : AnySearch → WorkerKind
kind_in (by_brancher kind b s) = kind
kind_in (by_cores b s) = kinds.CoreGuided
kind_in (in_rounds n) = kinds.Near

-- the guidance that is seen of it when it has ended
abbrev pub guidance_in : AnySearch → Option Guidance
guidance_in (by_brancher kind b s) = Some (guidance_of b)
guidance_in (by_cores b s) = None
guidance_in (in_rounds n) = None

-- what is seen of it when it has ended so
abbrev pub ending_in : AnySearch → End → Ending
ending_in s end = ending (kind_in s) (guidance_in s) end (search_in s)

-- The kind of a worker by its number: after the first, three kinds in turn.
abbrev pub worker_kind : ℕ → WorkerKind
worker_kind number = if number == 0 then kinds.Fixed else
    (if number % 3 == 0 then kinds.Near else (if number % 3 == 2 then kinds.CoreGuided else kinds.Activity))

-- one of so many workers searches near solutions
abbrev pub SearchesNear : ℕ → Type 0
SearchesNear workers = (number : ℕ) × (number < workers) × (worker_kind number ≡ kinds.Near)

-- a kind whose workers decide by a brancher alone
abbrev pub HasBrancher : WorkerKind → Type 0
HasBrancher kinds.Fixed = ⊤
HasBrancher kinds.Activity = ⊤
HasBrancher kinds.CoreGuided = ⊥
HasBrancher kinds.Near = ⊥

-- ---- workers that begin

-- an instance of the model, with the sums that it writes alone
pub record IsFirstInstance (m : CpModel) (p : Problem) : Type 0 where
  pub sound : IsInstance p
  pub model : p.model ≡ m
  pub sums : p.defs ≡ model_sums m

-- a search of the model that begins, with a log in which nothing is written where one is asked for
pub record Begins (m : CpModel) (gap conflicts : ℕ) (logs : Bool) (s : Search) : Type 0 where
  pub instance : Problem
  pub first : IsFirstInstance m instance
  pub log : Option Traced
  pub blank : IfSome log (IsBlankLog instance)
  pub asked : is_some log ≡ logs
  pub is : s ≡ with_log log (fresh instance gap (Some conflicts))

-- of the kinds of workers the fixed one keeps a log where one is asked for
abbrev pub keeps_log : WorkerKind → Bool → Bool
keeps_log kinds.Fixed asked = asked
keeps_log kinds.Activity asked = false
keeps_log kinds.CoreGuided asked = false
keeps_log kinds.Near asked = false

-- one of a kind with a brancher, which goes by what the model says and has heard nothing yet
pub record BeginsGuided (m : CpModel) (o : Options) (kind : WorkerKind) (b : Branching) (s : Search) : Type 0 where
  pub begins : Begins m o.gap o.conflicts (keeps_log kind o.log) s
  pub guided : HasBrancher kind
  pub guide : IsGuidedBy kind s.instance (Some (guidance_of b))
  pub idle : IsIdle b

-- one that goes by cores: the objective has its first form
pub record BeginsCores (m : CpModel) (gap conflicts : ℕ) (s : CoreSearch) : Type 0 where
  pub instance : Problem
  pub first : IsFirstInstance m instance
  pub is : BeginsCore instance gap conflicts s

-- and its brancher goes by the model's hint and has heard nothing yet
pub record BeginsByCores (m : CpModel) (gap conflicts : ℕ) (b : Branching) (s : CoreSearch) : Type 0 where
  pub begins : BeginsCores m gap conflicts s
  pub guide : IsGuidedBy kinds.Activity s.search.instance (Some (guidance_of b))
  pub idle : IsIdle b

-- one that goes in rounds, for so many conflicts, and has the model's hint
pub record BeginsRounds (m : CpModel) (gap conflicts : ℕ) (n : Near) : Type 0 where
  pub instance : Problem
  pub first : IsFirstInstance m instance
  pub draws : Lcg
  pub is : BeginsNear instance gap conflicts draws n

abbrev pub BeginsAs : CpModel → Options → AnySearch → Type 0
BeginsAs m o (by_brancher kind b s) = BeginsGuided m o kind b s
BeginsAs m o (by_cores b s) = BeginsByCores m o.gap o.conflicts b s
BeginsAs m o (in_rounds n) = BeginsRounds m o.gap o.conflicts n

-- the stream of the seed from which the worker of this number draws; which worker takes a turn is drawn from stream 0
abbrev pub near_stream : ℕ → ℕ
near_stream number = 16 + number

-- one that goes in rounds draws by a generator of its own
abbrev pub DrawsBy : ℕ → ℕ → AnySearch → Type 0
DrawsBy seed number (by_brancher kind b s) = ⊤
DrawsBy seed number (by_cores b s) = ⊤
DrawsBy seed number (in_rounds n) = n.draws ≡ draws_of seed (near_stream number)

-- ---- turns

-- one turn of a worker with a brancher
abbrev pub TurnsBy : ℕ → Search × Branching → Search × Branching → Part → Part → Turn → Type 0
TurnsBy rows s t p q turn = OneTurn ChoosesAs HearsAs StaysAs rows s t p q turn

-- such turns one after another, none of which ended the worker
abbrev pub TakesTurnsBy : ℕ → Search × Branching → Search × Branching → Part → Part → Type 0
TakesTurnsBy rows s t p q = TakesTurns ChoosesAs HearsAs StaysAs rows s p t q

-- one turn of a worker that goes by cores
abbrev pub CoreTurnBy : ℕ → CoreSearch × Branching → CoreSearch × Branching → Part → Part → Turn → Type 0
CoreTurnBy rows s t p q turn = OneCoreTurn ChoosesAs HearsAs StaysAs rows s t p q turn

-- such turns one after another, none of which ended the worker
abbrev pub TakesCoreTurnsBy : ℕ → CoreSearch × Branching → CoreSearch × Branching → Part → Part → Type 0
TakesCoreTurnsBy rows s t p q = TakesCoreTurns ChoosesAs HearsAs StaysAs rows s p t q

-- such turns, of which the last ended it so
abbrev pub RunsByCores : ℕ → CoreSearch × Branching → CoreSearch × Branching → Part → Part → End → Type 0
RunsByCores rows s t p q end = RunsInCoreTurns ChoosesAs HearsAs StaysAs rows s t p q end

-- it is aimed at a solution of its model, or aims where it did
abbrev pub IsAimed : Near → Near → Type 0
IsAimed n aimed = (aimed ≡ n)
    ⊎ ((solution : List ℤ) × IsSolution n.search.instance.model solution × (aimed ≡ record n { aim = Some solution }))

-- one turn of a worker with a brancher, which was its last or not
pub record TurnedBy (rows : ℕ) (s t : Search × Branching) (p q : Part) (over : Bool) : Type 0 where
  pub before : IsSoundSearch s.0
  pub after : IsSoundSearch t.0
  pub turn : Turn
  pub takes : TurnsBy rows s t p q turn
  pub last : over ≡ is_some (end_of turn)

-- one turn of a worker that goes by cores, which was its last or not
pub record TurnedByCores (rows : ℕ) (s t : CoreSearch × Branching) (p q : Part) (over : Bool) : Type 0 where
  pub turn : Turn
  pub takes : CoreTurnBy rows s t p q turn
  pub last : over ≡ is_some (end_of turn)

-- one turn of a worker that goes in rounds, which was handed a solution before it or was not
pub record TurnedNear (rows : ℕ) (m n : Near) (p q : Part) (over : Bool) : Type 0 where
  pub before : IsSoundSearch m.search
  pub after : IsSoundSearch n.search
  pub aimed : Near
  pub aims : IsAimed m aimed
  pub turn : Turn
  pub takes : TakesNearTurn aimed n rows p q turn
  pub no_budget : m.search.budget ≡ None
  pub last : over ≡ is_some (end_of turn)

-- a worker took one turn, which was its last or not
abbrev pub HasTurned : ℕ → AnySearch → AnySearch → Part → Part → Bool → Type 0
HasTurned rows (by_brancher kind b s) (by_brancher same c t) p q over = (same ≡ kind)
    × TurnedBy rows (s, b) (t, c) p q over
HasTurned rows (by_cores b s) (by_cores c t) p q over = TurnedByCores rows (s, b) (t, c) p q over
HasTurned rows (in_rounds m) (in_rounds n) p q over = TurnedNear rows m n p q over
HasTurned rows s t p q over = ⊥

-- turns one after another, none of which ended the worker
abbrev pub TakesTurnsAs : ℕ → AnySearch → AnySearch → Part → Part → Type 0
TakesTurnsAs rows (by_brancher kind b s) (by_brancher same c t) p q = (same ≡ kind)
    × TakesTurnsBy rows (s, b) (t, c) p q
TakesTurnsAs rows (by_cores b s) (by_cores c t) p q = TakesCoreTurnsBy rows (s, b) (t, c) p q
TakesTurnsAs rows (in_rounds m) (in_rounds n) p q = TakesNearTurns rows m p n q
TakesTurnsAs rows s t p q = ⊥

-- such turns, and one more that ended it
pub record HasEnded (rows : ℕ) (s t : AnySearch) (p q : Part) : Type 0 where
  pub before : AnySearch
  pub part : Part
  pub turns : TakesTurnsAs rows s before p part
  pub last : HasTurned rows before t part q true

-- ---- the pool

-- A turn put the solution that it found into the pool, where a worker reads the pool, and nothing else.
pub data PutsFound (is_read : Bool) (before after : List (List ℤ)) (rows : ℕ) (s t : Search) (p q : Part)
    : Type 0 where
  found_one : (solution : List ℤ) → FoundOne s t rows p q → t.best ≡ Some solution
      → after ≡ with_pushed is_read before solution → PutsFound is_read before after rows s t p q
  found_none : SameBest s t → after ≡ before → PutsFound is_read before after rows s t p q

-- where a worker aims that had been handed the last of so many of these solutions: at the last of all, if there are more
abbrev pub aim_by : List (List ℤ) → ℕ → Option (List ℤ) → Option (List ℤ)
aim_by found handed aim = if nat_lt handed (length found) then Some (last_of found) else aim

-- before its turn a worker that searches near solutions was handed the last of these, unless it had been
abbrev pub WasHanded : List (List ℤ) → ℕ → ℕ → AnySearch → AnySearch → Type 0
WasHanded found before after (in_rounds m) (in_rounds n) = (after ≡ max before (length found))
    × (n.aim ≡ aim_by found before m.aim)
WasHanded found before after s t = ⊤
