-- Reasons of what a task gives, made of facts.
use Rattle.std.specs.Prelude.{◌≡◌, ◌⊎◌, ℕ, ◌<◌, ℤ, true, false, List, ◌∷◌, length, All, Contains}
use Rattle.cps_literal.specs.declared.atom.Atom.{Atom}
use Rattle.cps_literal.specs.Truth.{clause_holds}
use Rattle.cps_instance.specs.declared.task.Task.{Task}
use Rattle.cps_instance.specs.declared.task.Body.{Body}
use Rattle.cps_instance.specs.Tasks.{HoldsTask, subjects_of}
use Rattle.cps_trail.specs.Trail.{Trail, IsFalseNow, IsWithin, Explains}
use Rattle.cps_trail.specs.Adds.{Follows}
use Rattle.cps_propagate.specs.Reasons.{SpeaksOf}
use Rattle.cps_rule.specs.Rules.{AllTrueAt}

abbrev pub task_of : List Atom → Body → Task
task_of enforcement body = record { enforcement = enforcement; body = body }

-- A clause gains atoms that are false in a store, and that are all false at values within the first domains only where
-- facts are true. The new atoms are about the facts' subjects.
pub record DeniesFacts (s : Trail) (us old new : List Atom) : Type 0 where
  pub kept : (xs : List ℤ) → clause_holds old xs ≡ true → clause_holds new xs ≡ true
  pub false_now : (u : Atom) → Contains new u → Contains old u ⊎ IsFalseNow s u
  pub known : All (λ u. u.subject < length s.first) old → All (λ u. u.subject < length s.first) new
  pub subjects : (is : List ℕ) → SpeaksOf is us → SpeaksOf is old → SpeaksOf is new
  pub facts : (xs : List ℤ) → IsWithin s.first xs → clause_holds new xs ≡ false → AllTrueAt xs us

-- a reason that explains an atom, that a task gives, and that speaks of the atom's subject and what the task reads
pub record IsReasonFor (task : Task) (s : Trail) (t : Atom) (reason : List Atom) : Type 0 where
  pub explained : Explains s.first s.entries reason t
  pub follows : Follows (HoldsTask task) s.first reason
  pub speaks : SpeaksOf (t.subject ∷ subjects_of task) reason
