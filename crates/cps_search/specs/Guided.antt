-- Runs of workers by what is seen of their branchers, and what the guidance of a worker is.
use Rattle.std.specs.Prelude.{ℕ, Option, Some, None, ⊤}
use Rattle.cps_instance.specs.Problem.{Problem}
use Rattle.cps_search.specs.declared.end.WorkerKind.{WorkerKind}
use Rattle.cps_search.specs.declared.end.WorkerKind.TheVariants.{Fixed, Activity, CoreGuided, Near}
use Rattle.cps_branch.specs.declared.guidance.Guidance.{Guidance}
use Rattle.cps_branch.specs.declared.guidance.Guidance.TheVariants.{Steered, Hinted}
use Rattle.cps_port.specs.declared.part.Part.{Part}
use Rattle.cps_search.specs.declared.end.End.{End}
use Rattle.cps_search.specs.Searches.{Search}
use Rattle.cps_search.specs.Ends.{RunsInTurns}
use Rattle.cps_branch.specs.Guidances.{Branching, ChoosesAs, HearsAs, StaysAs, IsPlanOf, AreHintsOf}

-- a run of turns by a brancher: which atoms it chooses, what it counts, and when it restarts
abbrev pub RunsBy : ℕ → Search × Branching → Search × Branching → Part → Part → End → Type 0
RunsBy rows s t p q end = RunsInTurns ChoosesAs HearsAs StaysAs rows s t p q end

-- The brancher of a fixed worker goes through the strategies and the variables of the instance, and that of an activity
-- worker has the model's hint. Workers of other kinds may have none.
abbrev pub IsGuidedBy : WorkerKind → Problem → Option Guidance → Type 0
IsGuidedBy Fixed p None = ⊥
IsGuidedBy Fixed p (Some (Steered plan)) = IsPlanOf p plan
IsGuidedBy Fixed p (Some (Hinted hints)) = ⊥
IsGuidedBy Activity p None = ⊥
IsGuidedBy Activity p (Some (Steered plan)) = ⊥
IsGuidedBy Activity p (Some (Hinted hints)) = AreHintsOf p hints
IsGuidedBy CoreGuided p guidance = ⊤
IsGuidedBy Near p guidance = ⊤
