-- How many conflicts are enough to decide a model, and what an outcome says where a budget is.
use Rattle.std.specs.Prelude.{◌≡◌, ◌⊎◌, ◌≤◌, ℕ}
use Rattle.cps_model.specs.declared.model.CpModel.{CpModel}
use Rattle.cps_model.specs.declared.status.Status.TheVariants.{Infeasible, Optimal}
use Rattle.cps_instance.specs.Problem.{Problem}
use Rattle.cps_search.specs.Enough.{enough}
use Rattle.cps_crew.specs.declared.outcome.Outcome.{Outcome}
use Rattle.cps_crew.specs.Workers.{IsFirstInstance}

-- which solution is best within the gap is known, or that there is none
abbrev pub IsDecided : Outcome → Type 0
IsDecided o = (o.status ≡ Optimal) ⊎ (o.status ≡ Infeasible)

-- So many conflicts are enough for an instance of the model with the sums that the model writes alone. There is such an
-- instance, and each has this number, so that the model alone determines it.
pub record IsEnoughFor (m : CpModel) (number : ℕ) : Type 0 where
  pub instance : Problem
  pub first : IsFirstInstance m instance
  pub alike : (p : Problem) → IsFirstInstance m p → enough p ≡ number

-- Where a worker may learn from as many conflicts as are enough for the model, the outcome says which solution is best
-- within the gap, or that there is none.
pub record DecidesWhereEnough (m : CpModel) (conflicts : ℕ) (o : Outcome) : Type 0 where
  pub number : ℕ
  pub is_enough : IsEnoughFor m number
  pub decides : number ≤ conflicts → IsDecided o
