-- What the outcome of a search says of its model.
use Rattle.std.specs.Prelude.{◌≡◌, ◌<◌, ◌≤◌, ⊤, ℕ, false, if◌then◌else◌, ℤ, int_lt, Option, Some, None, IfSome, IsTrue, is_some, List, [], ◌∷◌, ◌++◌, length, slice_index_or, map, All}
use Rattle.std.specs.List.{range_with_len}
use Rattle.rand_pcg.specs.Lcg.{Lcg}
use Rattle.cps_model.specs.declared.model.CpModel.{CpModel}
use Rattle.cps_model.specs.declared.bound.Bound.{Bound}
use Rattle.cps_model.specs.declared.bound.Bound.TheVariants.{At, Infinite}
use Rattle.cps_model.specs.Solutions.{objective_value, IsSolution}
use Rattle.cps_model.specs.Start.{objective_start}
use Rattle.cps_model.specs.Statuses.{is_closed, status_of, IsAtMost}
use Rattle.cps_literal.specs.declared.atom.Atom.{Atom}
use Rattle.cps_instance.specs.Problem.{Problem, IsInstance}
use Rattle.cps_instance.specs.Strategies.{model_sums}
use Rattle.cps_instance.specs.Sums.{DefinedSum}
use Rattle.cps_port.specs.declared.part.BoundsPart.{BoundsPart}
use Rattle.cps_port.specs.declared.part.Part.{Part}
use Rattle.cps_port.specs.Entries.{most_rows}
use Rattle.cps_port.specs.Parts.{newcomer}
use Rattle.cps_port.specs.Order.{BoundLe, IsNoLower, raised_above}
use Rattle.cps_port.specs.Incumbents.{IsLowerBound}
use Rattle.cps_clauses.specs.declared.journal.JournalItem.TheVariants.{Learnt}
use Rattle.cps_search.specs.declared.end.WorkerKind.{WorkerKind}
use Rattle.cps_search.specs.declared.end.WorkerKind.TheVariants as kinds
use Rattle.cps_search.specs.declared.end.End.{End}
use Rattle.cps_search.specs.declared.end.End.TheVariants.{Exhausted, SawClosed, Spent, RoundsDone}
use Rattle.cps_model.specs.declared.status.Status.TheVariants.{Infeasible}
use Rattle.cps_search.specs.Assumptions.{IsSufficient}
use Rattle.cps_search.specs.Searches.{Search, IsHonestJournal, IsItemAbove, learnt_count}
use Rattle.cps_search.specs.Ends.{Ending, IsHonestEnding, ending, round_count}
use Rattle.cps_search.specs.Following.{best_bound}
use Rattle.cps_search.specs.Guided.{IsGuidedBy, RunsBy}
use Rattle.cps_tracer.specs.Traced.{Traced}
use Rattle.cps_search.specs.Logged.{IsBlankLog}
use Rattle.cps_search.specs.Moves.{fresh, with_log}
use Rattle.cps_branch.specs.declared.guidance.Guidance.{Guidance}
use Rattle.cps_branch.specs.Guidances.{Branching, IsIdle, guidance_of}
use Rattle.cps_core_guided.specs.Reforming.{CoreSearch}
use Rattle.cps_core_guided.specs.CoreTurns.{core_ending}
use Rattle.cps_neighbourhood.specs.Drawing.{draws_of}
use Rattle.cps_neighbourhood.specs.Nears.{Near, BeginsNear, NearRunsInTurns}
use Rattle.cps_options.specs.declared.options.Options.{Options}
use Rattle.cps_crew.specs.declared.outcome.Outcome.{Outcome}
use Rattle.cps_crew.specs.Workers.{worker_kind, keeps_log, near_stream, BeginsByCores, RunsByCores}
use Rattle.cps_crew.specs.Deciding.{DecidesWhereEnough}
use Rattle.cps_crew.specs.Logs.{log_of, IsLogOfOutcome}

-- the kinds of the workers by number
abbrev pub kinds_of : ℕ → List WorkerKind
kinds_of workers = map worker_kind (range_with_len 0 workers)

-- the better of two solutions, and the first where the other is no better
abbrev pub better : CpModel → Option (List ℤ) → Option (List ℤ) → Option (List ℤ)
better m None b = b
better m (Some a) None = Some a
better m (Some a) (Some b) = if int_lt (objective_value m b) (objective_value m a) then Some b else Some a

-- the best solution that any worker found, that of the lowest number where several are as good
abbrev pub best_of : CpModel → List Ending → Option (List ℤ)
best_of m [] = None
best_of m (e ∷ es) = better m e.best (best_of m es)

-- the greatest of a bound and of those to which the workers raised it
abbrev pub greatest_raised : Bound → List Ending → Bound
greatest_raised start [] = start
greatest_raised start (e ∷ es) = raised_above e.raised (greatest_raised start es)

-- the core of a worker that left no solution at all; where it left some, the other core
abbrev pub core_if : End → Option Bound → List ℤ → List ℤ → List ℤ
core_if Exhausted (Some Infinite) core other = core
core_if Exhausted (Some (At value)) core other = other
core_if Exhausted None core other = other
core_if SawClosed raised core other = other
core_if (Spent clause below) raised core other = other
core_if RoundsDone raised core other = other

-- the core of the first worker that left no solution at all; none where no worker did
abbrev pub core_of : List Ending → List ℤ
core_of [] = []
core_of (e ∷ es) = core_if e.end e.raised e.core (core_of es)

-- A worker spent its budget of conflicts: it learnt from as many as it may, and ended with the clause that one more
-- teaches. Its journal with this clause at the end is honest, and no clause of it is about what is better than the
-- least objective that was found.
pub record SpentItsBudget (m : CpModel) (conflicts : ℕ) (upper : Bound) (e : Ending) : Type 0 where
  pub tally : e.tally ≡ conflicts
  pub learnt : learnt_count e.journal ≡ conflicts
  pub clause : List Atom
  pub below : Bound
  pub end : e.end ≡ Spent clause below
  -- an instance of the model with the worker's sums, over whose subjects the clauses are
  pub instance : Problem
  pub is_instance : IsInstance instance
  pub model : instance.model ≡ m
  pub sums : instance.defs ≡ e.defs
  pub honest : IsHonestJournal instance (e.journal ++ Learnt clause below ∷ [])
  pub above : All (IsItemAbove upper) (e.journal ++ Learnt clause below ∷ [])

-- A neighbourhood worker did its rounds, and ended for no other reason. It learnt at least as many clauses as there
-- were rounds; its journal is honest, and no clause of it is about what is better than the least objective that was
-- found.
pub record DidItsRounds (m : CpModel) (conflicts : ℕ) (upper : Bound) (e : Ending) : Type 0 where
  pub end : e.end ≡ RoundsDone
  pub learnt : round_count conflicts ≤ learnt_count e.journal
  -- an instance of the model with the worker's sums, over whose subjects the clauses are
  pub instance : Problem
  pub is_instance : IsInstance instance
  pub model : instance.model ≡ m
  pub sums : instance.defs ≡ e.defs
  pub honest : IsHonestJournal instance e.journal
  pub above : All (IsItemAbove upper) e.journal

-- what a worker of each kind has done where the bounds have not met: a complete one spent its budget
abbrev pub DidItsPartAs : WorkerKind → CpModel → ℕ → Bound → Ending → Type 0
DidItsPartAs kinds.Fixed m conflicts upper e = SpentItsBudget m conflicts upper e
DidItsPartAs kinds.Activity m conflicts upper e = SpentItsBudget m conflicts upper e
DidItsPartAs kinds.CoreGuided m conflicts upper e = SpentItsBudget m conflicts upper e
DidItsPartAs kinds.Near m conflicts upper e = DidItsRounds m conflicts upper e

abbrev pub DidItsPart : CpModel → ℕ → Bound → Ending → Type 0
DidItsPart m conflicts upper e = DidItsPartAs e.kind m conflicts upper e

-- ---- what is seen of a worker that began with nothing known, at a board with all its rows

-- A worker that ended is seen as a run leaves it whose brancher has this guidance and had heard nothing, and in whose
-- log, if it kept one, nothing was written.
pub record IsEndOfRun (p : Problem) (gap budget : ℕ) (guidance : Guidance) (e : Ending) : Type 0 where
  pub log : Option Traced
  pub blank : IfSome log (IsBlankLog p)
  pub first : Branching
  pub idle : IsIdle first
  pub guided : guidance_of first ≡ guidance
  pub last : Branching
  pub done : Search
  pub after : Part
  pub runs : RunsBy most_rows (with_log log (fresh p gap (Some budget)), first) (done, last) newcomer after e.end
  pub seen : e ≡ ending e.kind (Some guidance) e.end done

-- A neighbourhood worker that ended is seen as turns in rounds leave it, if they began with the model's hint and with
-- these draws.
pub record IsEndOfRounds (p : Problem) (gap conflicts : ℕ) (draws : Lcg) (e : Ending) : Type 0 where
  pub first : Near
  pub begins : BeginsNear p gap conflicts draws first
  pub done : Near
  pub after : Part
  pub runs : NearRunsInTurns most_rows first done newcomer after e.end
  pub seen : e ≡ ending kinds.Near None e.end done.search

-- What is seen of a core-guided worker that ended is what turns come to that began with the objective's first form,
-- over an instance of the model; where nothing is left to assume, they go by activity, at the model's hint.
pub record IsEndOfCores (m : CpModel) (gap conflicts : ℕ) (e : Ending) : Type 0 where
  pub first : CoreSearch
  pub idle : Branching
  pub begins : BeginsByCores m gap conflicts idle first
  pub done : CoreSearch
  pub last : Branching
  pub after : Part
  pub runs : RunsByCores most_rows (first, idle) (done, last) newcomer after e.end
  pub seen : e ≡ core_ending e.end done

-- The sums that a worker of a kind defined are those that the model writes; only a core-guided one defines more, for
-- its form of the objective.
abbrev pub HasSums : WorkerKind → CpModel → List DefinedSum → Type 0
HasSums kinds.Fixed m defs = defs ≡ model_sums m
HasSums kinds.Activity m defs = defs ≡ model_sums m
HasSums kinds.CoreGuided m defs = ⊤
HasSums kinds.Near m defs = defs ≡ model_sums m

-- The worker of this number went by what the model says, over an instance with the worker's sums: what is seen of one
-- with a brancher is what a run comes to whose decisions and restarts are the brancher's; what is seen of a core-guided
-- worker is what its reforms and decisions come to; and what is seen of a neighbourhood worker is what its rounds come
-- to, which draw by the seed and its number.
pub record GoesByModel (m : CpModel) (options : Options) (number : ℕ) (e : Ending) : Type 0 where
  pub instance : Problem
  pub is_instance : IsInstance instance
  pub model : instance.model ≡ m
  pub sums : instance.defs ≡ e.defs
  pub guide : IsGuidedBy e.kind instance e.guidance
  pub decisions : IfSome e.guidance (λ guidance. IsEndOfRun instance options.gap options.conflicts guidance e)
  pub cores : e.kind ≡ kinds.CoreGuided → IsEndOfCores m options.gap options.conflicts e
  pub rounds : e.kind ≡ kinds.Near
      → IsEndOfRounds instance options.gap options.conflicts (draws_of options.seed (near_stream number)) e
  -- the fixed worker kept a log where one was asked for
  pub logs : is_some e.log ≡ keeps_log e.kind options.log

pub record IsGoodOutcome (m : CpModel) (options : Options) (o : Outcome) : Type 0 where
  -- each worker ended, and is of the kind that its number says, with the sums that the model writes and, but for a
  -- core-guided one, no others
  pub workers : map (λ e. e.kind) o.ends ≡ kinds_of options.workers
  pub sums : All (λ e. HasSums e.kind m e.defs) o.ends
  -- a fixed worker decides by the model's strategies and then takes the variables, and never restarts; an activity
  -- worker takes the most active variable, at the model's hint, and restarts by its pace, and a core-guided worker does
  -- so after its assumptions; a neighbourhood worker decides in rounds, which it draws by the seed and its number, and
  -- then so
  pub branchers : (i : ℕ) (d : Ending) → i < length o.ends → GoesByModel m options i (slice_index_or o.ends i d)
  -- the status is that of the two bounds
  pub status : o.status ≡ status_of o.upper o.lower options.gap
  -- what a worker found is a solution, the outcome's is the best of these, and the upper bound is its objective
  pub found : All (λ e. IfSome e.best (IsSolution m)) o.ends
  pub solution : o.solution ≡ best_of m o.ends
  pub upper : o.upper ≡ best_bound m o.solution
  -- the lower bound is the greatest of the least objective by the domains and of what the workers raised it to, and no
  -- solution is below
  pub lower : o.lower ≡ greatest_raised (At (objective_start m)) o.ends
  pub floor : (a : List ℤ) → IsSolution m a → IsAtMost o.lower (objective_value m a)
  -- the core is that of the first worker that left no solution at all, and is sufficient where the model is infeasible
  pub core : o.core ≡ core_of o.ends
  pub sufficient : o.status ≡ Infeasible → IsSufficient m o.core
  -- where the bounds have not met, each worker of a complete kind spent its budget, and each neighbourhood worker did
  -- its rounds
  pub spent : is_closed o.lower o.upper options.gap ≡ false → All (DidItsPart m options.conflicts o.upper) o.ends
  -- the first worker never spends a budget that is enough
  pub decides : DecidesWhereEnough m options.conflicts o
  -- a log was kept where it was asked for, and what it says is so
  pub logged : is_some (log_of o.ends) ≡ options.log
  pub log : IfSome (log_of o.ends) (IsLogOfOutcome m o)

-- a worker spent its budget only where this is so
abbrev pub SpentOnlyIf : Type 0 → End → Type 0
SpentOnlyIf P Exhausted = ⊤
SpentOnlyIf P SawClosed = ⊤
SpentOnlyIf P (Spent clause below) = P
SpentOnlyIf P RoundsDone = ⊤

-- the first worker spent its budget only where this is so
abbrev pub FirstSpentOnlyIf : Type 0 → List Ending → Type 0
FirstSpentOnlyIf P [] = ⊤
FirstSpentOnlyIf P (e ∷ es) = SpentOnlyIf P e.end

-- A worker ended honestly, and saw nothing better than these two bounds.
pub record EndedWithin (m : CpModel) (gap conflicts : ℕ) (upper lower : Bound) (e : Ending) : Type 0 where
  pub part : BoundsPart
  pub ended : IsHonestEnding m gap conflicts part e
  pub sums : HasSums e.kind m e.defs
  pub above : BoundLe upper part.saw_upper
  pub below : IsNoLower part.saw_lower lower

-- What all workers came to: the words are what they found and raised, and each of them went by the model and ended
-- within the words. The worker that keeps a log spent its budget only where the words had not met.
pub record CameTo (m : CpModel) (options : Options) (upper lower : Bound) (ends : List Ending) : Type 0 where
  pub kinds : map (λ (e : Ending). e.kind) ends ≡ kinds_of options.workers
  pub upper_is : upper ≡ best_bound m (best_of m ends)
  pub lower_is : lower ≡ greatest_raised (At (objective_start m)) ends
  pub floor : IsLowerBound m lower
  pub each : All (EndedWithin m options.gap options.conflicts upper lower) ends
  pub goes : (i : ℕ) (d : Ending) → i < length ends → GoesByModel m options i (slice_index_or ends i d)
  pub open_yet : IsTrue options.log → FirstSpentOnlyIf (is_closed lower upper options.gap ≡ false) ends
