-- What is known of a worker of each kind that there is.
use Rattle.std.specs.Prelude.{◌≡◌, ℕ, List, []}
use Rattle.cps_model.specs.declared.model.CpModel.{CpModel}
use Rattle.cps_options.specs.declared.options.Options.{Options}
use Rattle.cps_branch.specs.Guidances.{in_order, by_activity}
use Rattle.cps_search.specs.declared.end.WorkerKind.TheVariants as kinds
use Rattle.cps_search.specs.Ends.{Ending}
use Rattle.cps_tracer.specs.Traced.{Traced, IsAbout}
use Rattle.cps_crew.specs.Workers.{AnySearch, by_brancher, by_cores, in_rounds}
use Rattle.cps_crew.specs.Turning.{IsDrawnBy}
use Rattle.cps_portfolio.specs.declared.worker.AnyWorker.{AnyWorker}
use Rattle.cps_portfolio.specs.declared.worker.AnyWorker.TheVariants.{Fixed, Activity, Core, Near}

-- a worker of each kind
abbrev pub known_of : AnyWorker → AnySearch
known_of (Fixed w) = by_brancher kinds.Fixed (in_order w.1.plan) w.0
known_of (Activity w) = by_brancher kinds.Activity (by_activity w.1) w.0
known_of (Core w) = by_cores (by_activity w.1) w.0
known_of (Near w) = in_rounds w.worker

-- a log of a model in which nothing is written
abbrev pub IsBlankOf : CpModel → Traced → Type 0
IsBlankOf m t = IsAbout m t × (t.items ≡ [])

-- how many solutions the pool had when it was last handed one
abbrev pub handed_to : AnyWorker → ℕ
handed_to (Fixed w) = 0
handed_to (Activity w) = 0
handed_to (Core w) = 0
handed_to (Near w) = w.handed

-- these are the ends of workers of these kinds that knew nothing at first, and took drawn turns until all had ended
abbrev pub IsDrawnRun : CpModel → Options → ℕ → List Ending → Type 0
IsDrawnRun m options rows es = IsDrawnBy known_of m options rows es
