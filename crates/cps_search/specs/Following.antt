-- How a search and its actor's part of the shared state move together.
use Rattle.std.specs.Prelude.{◌≡◌, ◌≤◌, ℤ, Option, Some, None, List, length}
use Rattle.cps_model.specs.declared.bound.Bound.{Bound}
use Rattle.cps_model.specs.declared.bound.Bound.TheVariants.{At, Infinite}
use Rattle.cps_model.specs.declared.model.CpModel.{CpModel}
use Rattle.cps_model.specs.Solutions.{objective_value}
use Rattle.cps_port.specs.declared.part.BoundsPart.{BoundsPart}
use Rattle.cps_port.specs.declared.part.Part.{Part}
use Rattle.cps_port.specs.Order.{BoundLe, lesser, greater_of}
use Rattle.cps_search.specs.Searches.{Search}

-- the objective of a best solution, `Infinite` where there is none
abbrev pub best_bound : CpModel → Option (List ℤ) → Bound
best_bound m None = Infinite
best_bound m (Some a) = At (objective_value m a)

-- The actor's least offer is the lesser of what it had offered before the search and the best solution that the search
-- found.
abbrev pub OffersBest : Bound → Search → BoundsPart → Type 0
OffersBest before s p = p.offered ≡ lesser before (best_bound s.instance.model s.best)

-- The actor's greatest raise is the greater of what it had raised to before the search and what the search raised to.
abbrev pub RaisesSame : Option Bound → Search → BoundsPart → Type 0
RaisesSame before s p = p.raised ≡ greater_of before s.raised

-- How a search and its actor's part move together: z never rises, and stays at least the least bound that the actor saw
-- or offered; the actor offers what the search found and nothing else, and raises what it raised and nothing else; and
-- no more clauses are imported than entries were taken.
pub record MovesWith (s t : Search) (p q : Part) : Type 0 where
  pub falls : BoundLe t.z s.z
  pub follows : BoundLe p.bounds.saw_upper s.z → BoundLe q.bounds.saw_upper t.z
  pub offers : (before : Bound) → OffersBest before s p.bounds → OffersBest before t q.bounds
  pub raises : (before : Option Bound) → RaisesSame before s p.bounds → RaisesSame before t q.bounds
  pub imports : s.imported ≤ length p.board.taken → t.imported ≤ length q.board.taken
