-- What the status of an outcome promises.
use Rattle.std.specs.Prelude.{◌≡◌, ℕ, true, ℤ, Some, None, List, All}
use Rattle.cps_model.specs.declared.model.CpModel.{CpModel}
use Rattle.cps_model.specs.declared.bound.Bound.TheVariants.{At, Infinite}
use Rattle.cps_model.specs.declared.status.Status.TheVariants.{Optimal, Feasible, Infeasible, Unknown}
use Rattle.cps_model.specs.Solutions.{objective_value, IsSolution, IsBest, HasNoSolution}
use Rattle.cps_model.specs.Statuses.{is_closed, IsAtMost}
use Rattle.cps_search.specs.Assumptions.{IsSufficient}
use Rattle.cps_options.specs.declared.options.Options.{Options}
use Rattle.cps_crew.specs.declared.outcome.Outcome.{Outcome}
use Rattle.cps_crew.specs.Deciding.{DecidesWhereEnough}
use Rattle.cps_crew.specs.Outcomes.{DidItsPart}

-- a solution that none beats by more than the gap, with a lower bound that is at most its objective and within the gap
-- of it
pub record IsOptimal (m : CpModel) (gap : ℕ) (o : Outcome) (a : List ℤ) : Type 0 where
  pub this : o.solution ≡ Some a
  pub best : IsBest m gap a
  pub below : IsAtMost o.lower (objective_value m a)
  pub near : is_closed o.lower (At (objective_value m a)) gap ≡ true

-- a solution, which no worker beat though each spent its budget of conflicts or did its rounds
pub record IsFeasible (m : CpModel) (options : Options) (o : Outcome) (a : List ℤ) : Type 0 where
  pub this : o.solution ≡ Some a
  pub solution : IsSolution m a
  pub below : IsAtMost o.lower (objective_value m a)
  pub parts : All (DidItsPart m options.conflicts (At (objective_value m a))) o.ends

-- no worker found a solution, though each spent its budget of conflicts or did its rounds
pub record IsUnknown (m : CpModel) (options : Options) (o : Outcome) : Type 0 where
  pub nothing : o.solution ≡ None
  pub parts : All (DidItsPart m options.conflicts Infinite) o.ends

-- what each status promises, and when only the first two can come
pub record KeepsPromise (m : CpModel) (options : Options) (o : Outcome) : Type 0 where
  pub optimal : o.status ≡ Optimal → (a : List ℤ) × IsOptimal m options.gap o a
  pub infeasible : o.status ≡ Infeasible → HasNoSolution m
  -- the assumptions that are listed are some of the model's, and no free assignment makes all of them true
  pub core : o.status ≡ Infeasible → IsSufficient m o.core
  pub feasible : o.status ≡ Feasible → (a : List ℤ) × IsFeasible m options o a
  pub unknown : o.status ≡ Unknown → IsUnknown m options o
  -- there is a number of conflicts, which the model alone determines, from which on the outcome is decided
  pub decides : DecidesWhereEnough m options.conflicts o
