-- A sum as it is lent: what it asks, that it is measured in a store, and an end of one of its terms.
use Rattle.std.specs.Prelude.{ℕ, ℤ, ◌<◌, List, ◌++◌, length}
use Rattle.cps_literal.specs.declared.atom.Atom.{Atom}
use Rattle.cps_instance.specs.Terms.{term_subjects}
use Rattle.cps_instance.specs.Tasks.{atom_subjects}
use Rattle.cps_trail.specs.Trail.{Trail}
use Rattle.cps_trail.specs.declared.step.Step.{Step}
use Rattle.cps_p_linear.specs.declared.sum.SumTask.{SumTask}
use Rattle.cps_p_linear.specs.declared.sum.Measured.{Measured}
use Rattle.cps_p_linear.specs.declared.sum.TermEnd.{TermEnd}
use Rattle.cps_p_linear.specs.declared.cut.TermCut.{TermCut}
use Rattle.cps_p_linear.specs.Admitting.{IsPassing, IsGoal}
use Rattle.cps_p_linear.specs.Passing.{IsMeasured, IsCutAt}
use Rattle.cps_p_linear.specs.Reasons.{IsCutOf, IsGivenReason, IsReasonAt, IsGivenConflict, AnswersGiven}

-- where the enforcement atoms are true, the sum is admitted
abbrev pub Asks : SumTask → List ℤ → Type 0
Asks task = IsPassing task.enforcement.now task.terms.now task.admitted.now

-- the subjects of its enforcement atoms and of its terms
abbrev pub reads : SumTask → List ℕ
reads task = atom_subjects task.enforcement.now ++ term_subjects task.terms.now

-- reasons and conflicts that the sum gives, and that speak of nothing that it does not read
abbrev pub IsSumReason : SumTask → Trail → Atom → List Atom → Type 0
IsSumReason task s t reason = IsGivenReason (Asks task) (reads task) s t reason

abbrev pub IsSumReasonAt : SumTask → Trail → ℕ → List Atom → Type 0
IsSumReasonAt task s k reason = IsReasonAt (Asks task) (reads task) s k reason

abbrev pub IsSumConflict : SumTask → Trail → List Atom → Type 0
IsSumConflict task s clause = IsGivenConflict (Asks task) (reads task) s clause

abbrev pub AnswersBySum : SumTask → Trail → Step → Type 0
AnswersBySum task s step = AnswersGiven (Asks task) (reads task) s step

-- the ends of the sum, and of its subjects' values, are those in a store
abbrev pub IsMeasuredIn : Trail → Measured → Type 0
IsMeasuredIn s m = IsMeasured s m.task.terms.now m.task.admitted.now m.values.now m.sum

-- an end of one of the terms of a sum that is measured in a store, and what the sum is to be
pub record IsEndIn (s : Trail) (e : TermEnd) : Type 0 where
  pub place : e.place < length e.measured.task.terms.now
  pub measured : IsMeasuredIn s e.measured
  pub goal : IsGoal e.measured.task.admitted.now e.measured.sum e.goal

-- a cut leaves the term within this end of its room
abbrev pub IsCutOfEnd : TermEnd → TermCut → Type 0
IsCutOfEnd e = IsCutOf e.side e.measured.sum e.goal e.measured.task.terms.now e.measured.values.now e.place

-- each value that the term's subject may have now is within this end of its room
abbrev pub IsCutIn : Trail → TermEnd → Type 0
IsCutIn s e = IsCutAt s e.side e.measured.sum e.goal e.measured.task.terms.now e.measured.values.now e.place
