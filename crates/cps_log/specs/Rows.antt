-- When the clause of an item is shown by what stands before it.
use Rattle.std.specs.Prelude.{◌⊎◌, List}
use Rattle.cps_model.specs.declared.model.CpModel.{CpModel}
use Rattle.cps_literal.specs.declared.atom.Atom.{Atom}
use Rattle.cps_unit.specs.Boxes.{Box, IsEmpty}
use Rattle.cps_unit.specs.Propagation.{LeadsToConflict}
use Rattle.cps_log.specs.Subjects.{subject_domains, subject_count, IsClauseOver}
use Rattle.cps_log.specs.Boxes.{box_of}
use Rattle.cps_log.specs.Deriving.{Derivation}

abbrev pub clause_box : CpModel → Derivation → List Atom → Box
clause_box m g clause = box_of (subject_domains m.variables g.sums) clause

-- A clause over the subjects so far whose box is empty, or is refuted. Whatever a line names must exist where the box
-- is empty too: a constraint, and a sum, which no variable is.
pub record IsJustified (m : CpModel) (g : Derivation) (clause : List Atom) (Refuted : Type 0) : Type 0 where
  pub over : IsClauseOver (subject_count m.variables g.sums) clause
  pub shown : IsEmpty (subject_count m.variables g.sums) (clause_box m g clause) ⊎ Refuted

-- a clause that follows from the earlier ones by unit propagation
abbrev pub IsLearntRow : CpModel → Derivation → List Atom → Type 0
IsLearntRow m g clause = IsJustified m g clause (LeadsToConflict g.clauses (clause_box m g clause))
