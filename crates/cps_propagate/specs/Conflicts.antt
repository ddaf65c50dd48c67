-- Which task gives a conflict.
use Rattle.std.specs.Prelude.{ℕ, ◌<◌, List, length, slice_index_or, ⊤}
use Rattle.cps_literal.specs.declared.atom.Atom.{Atom}
use Rattle.cps_instance.specs.declared.task.Task.{Task}
use Rattle.cps_instance.specs.Tasks.{HoldsTask, subjects_of}
use Rattle.cps_trail.specs.Trail.{Trail}
use Rattle.cps_trail.specs.Adds.{IsConflict}
use Rattle.cps_trail.specs.declared.step.Step.{Step}
use Rattle.cps_trail.specs.declared.step.Step.TheVariants.{Settled, Conflict}
use Rattle.cps_propagate.specs.declared.propagator.Answer.{Answer}
use Rattle.cps_propagate.specs.declared.propagator.Answer.TheVariants as answers
use Rattle.cps_propagate.specs.declared.engine.Traced.{Traced}
use Rattle.cps_propagate.specs.declared.engine.Traced.TheVariants as traces
use Rattle.cps_propagate.specs.Reasons.{SpeaksOf}

-- an answer with the clause that was left
abbrev pub as_step : Answer → List Atom → Step
as_step answers.NoConflict clause = Settled
as_step answers.Conflict clause = Conflict clause

-- a task gives a conflict, which speaks of what the task reads
pub record IsConflictBy (t : Task) (s : Trail) (clause : List Atom) : Type 0 where
  pub given : IsConflict (HoldsTask t) s clause
  pub speaks : SpeaksOf (subjects_of t) clause

-- what a task answers: it gives the conflict, if there is one
abbrev pub AnswersBy : Task → Trail → Step → Type 0
AnswersBy t s Settled = ⊤
AnswersBy t s (Conflict clause) = IsConflictBy t s clause

-- the task with a number gives a conflict by itself, which speaks of what the task reads
pub record IsConflictOf (tasks : List Task) (number : ℕ) (s : Trail) (clause : List Atom) : Type 0 where
  pub within : number < length tasks
  pub given : (d : Task) → IsConflict (HoldsTask (slice_index_or tasks number d)) s clause
  pub speaks : (d : Task) → SpeaksOf (subjects_of (slice_index_or tasks number d)) clause

-- one of the tasks does
pub record IsConflictOfTask (tasks : List Task) (s : Trail) (clause : List Atom) : Type 0 where
  pub number : ℕ
  pub given : IsConflictOf tasks number s clause

-- what tasks answer: one of them gives the conflict, if there is one
abbrev pub AnswersByTasks : List Task → Trail → Step → Type 0
AnswersByTasks tasks s Settled = ⊤
AnswersByTasks tasks s (Conflict clause) = IsConflictOfTask tasks s clause

-- an answer with the number of the task that was visited last and the clause that was left
abbrev pub as_traced : Answer → ℕ → List Atom → Traced
as_traced answers.NoConflict number clause = traces.Settled
as_traced answers.Conflict number clause = traces.Conflict number clause

-- what a traced run answers: the task with the number gives the conflict, if there is one
abbrev pub AnswersTraced : List Task → Trail → Traced → Type 0
AnswersTraced tasks s traces.Settled = ⊤
AnswersTraced tasks s (traces.Conflict number clause) = IsConflictOf tasks number s clause
