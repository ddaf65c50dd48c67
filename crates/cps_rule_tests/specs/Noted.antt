-- Stores with the notes of one task, or with none.
use Rattle.std.specs.Prelude.{ℕ, ◌<◌, length}
use Rattle.cps_instance.specs.declared.task.Task.{Task}
use Rattle.cps_instance.specs.Tasks.{HoldsTask}
use Rattle.cps_trail.specs.Trail.{Trail}
use Rattle.cps_trail.specs.Notes.{AllFit, ByTask, HasNote, IsGivenAt}

abbrev pub HasNoRuleNotes : Trail → Type 0
HasNoRuleNotes s = (k : ℕ) → k < length s.entries → HasNote s k → ⊥

-- each note of the store is that of a task with this number, which gives the entry's atom
abbrev pub AreNotesOfRule : ℕ → Task → Trail → Type 0
AreNotesOfRule number task s = AllFit (IsGivenAt (ByTask number (HoldsTask task))) s
