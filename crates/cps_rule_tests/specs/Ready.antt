-- Tasks that may run on a store of whole intervals.
use Rattle.std.specs.Prelude.{◌≡◌, [], All}
use Rattle.cps_instance.specs.declared.task.Task.{Task}
use Rattle.cps_instance.specs.Terms.{Domains, AreIntervals}
use Rattle.cps_instance.specs.Fitting.{IsLiteral, IsFittingBody}
use Rattle.cps_trail.specs.Trail.{Trail}

-- a store of domains, on which nothing was done yet
pub record IsFreshStore (s : Trail) : Type 0 where
  pub none : s.entries ≡ []
  pub sound : All AreIntervals s.first

-- a task that is in force whatever else holds, and fits whatever the domains
pub record IsPlainTask (t : Task) : Type 0 where
  pub enforcement : t.enforcement ≡ []
  pub body : (first : Domains) → IsFittingBody first t.body

-- a task that fits the domains, if they are those of its subjects
pub record IsTaskReady (first : Domains) (t : Task) : Type 0 where
  pub enforcement : All (IsLiteral first) t.enforcement
  pub body : IsFittingBody first t.body
