-- What a reason says of a narrowing, and how a body's rule is told from its literals.
use Rattle.std.specs.Prelude.{◌≡◌, ℤ, true, List, [], ◌++◌}
use Rattle.std.specs.List.{list_any}
use Rattle.cps_literal.specs.declared.atom.Atom.{Atom}
use Rattle.cps_literal.specs.Truth.{atom_holds}
use Rattle.cps_instance.specs.declared.task.Task.{Task}
use Rattle.cps_instance.specs.declared.task.Body.{Body}
use Rattle.cps_instance.specs.Tasks.{HoldsBody, HoldsTask, atom_subjects, subjects_of, subjects_of_body}
use Rattle.cps_trail.specs.Trail.{Trail, Explains}
use Rattle.cps_trail.specs.Adds.{Follows}
use Rattle.cps_propagate.specs.Reasons.{SpeaksOf}
use Rattle.cps_p_bool.specs.Denying.{Denies, Excludes}

-- a clause that a task gives, that explains an atom in a store, and that speaks of what the task reads
pub record IsExplanation (s : Trail) (t : Task) (target : Atom) (clause : List Atom) : Type 0 where
  pub explained : Explains s.first s.entries clause target
  pub follows : Follows (HoldsTask t) s.first clause
  pub speaks : SpeaksOf (subjects_of t) clause

-- a clause denies the enforcement atoms, and others by which a body holds nowhere
pub record IsRuledOut (s : Trail) (enforcement : List Atom) (body : Body) (clause : List Atom) : Type 0 where
  pub used : List Atom
  pub excludes : Excludes s body used
  pub denies : Denies s [] clause (enforcement ++ used)

-- a body that asks of a list, and needs a true atom of it
pub record AsksForOne (body : Body) (atoms : List Atom) : Type 0 where
  pub reads : subjects_of_body body ≡ atom_subjects atoms
  pub some : (xs : List ℤ) → HoldsBody body xs → list_any (atom_holds xs) atoms ≡ true
