-- What a visit of one propagator does to a store.
use Rattle.std.specs.Prelude.{◌≡◌, ℕ, List, slice_index_or}
use Rattle.cps_literal.specs.declared.atom.Atom.{Atom}
use Rattle.cps_instance.specs.declared.task.Task.{Task}
use Rattle.cps_trail.specs.Trail.{Trail}
use Rattle.cps_trail.specs.Adds.{Infers}
use Rattle.cps_propagate.specs.declared.propagator.Answer.{Answer}
use Rattle.cps_propagate.specs.declared.propagator.Answer.TheVariants.{NoConflict}
use Rattle.cps_propagate.specs.Laws.{IsTaskAtRest}
use Rattle.cps_propagate.specs.Notes.{ByTasks}
use Rattle.cps_propagate.specs.Conflicts.{AnswersTraced, as_traced}

-- a call of the propagator with a number, seen as one of all tasks
pub record IsVisit (tasks : List Task) (s u : Trail) (number : ℕ) (answer : Answer) (clause : List Atom) : Type 0 where
  pub infers : Infers (ByTasks tasks) s u
  pub answers : AnswersTraced tasks u (as_traced answer number clause)
  pub at_rest : answer ≡ NoConflict → u.entries ≡ s.entries → (t : Task) → IsTaskAtRest (slice_index_or tasks number t) u
