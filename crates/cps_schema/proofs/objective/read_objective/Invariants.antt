use Rattle.std.specs.Prelude.{◌≡◌, List, ℕ, [], drop}
use Rattle.cps_textproto.specs.Trees.{field_list}
use Rattle.cps_schema.specs.Inputs.{written_of}
use Rattle.cps_schema.specs.Tables.{objective_message}
use Rattle.cps_schema.specs.Faults.{fields_fault}
use Rattle.cps_schema.specs.Readings.{read_objective}
use Rattle.cps_schema.specs.Parts.{objective_from, IsGivenObjective}
use Rattle.cps_schema.proofs.objective.read_objective.Given as goal

abbrev pub invariant-loop-field : goal.invariant-loop-field
invariant-loop-field l =
    ((before : List (List ℕ)) × (fields_fault (written_of l.input) objective_message [] (field_list l.field-items)
    ≡ fields_fault (written_of l.input) objective_message before (field_list (drop l.field-index l.field-items)))
    × IsGivenObjective l.parts.offset l.parts.scaling before)
    × (read_objective (written_of l.input) (field_list l.field-items)
    ≡ objective_from (written_of l.input) l.parts (field_list (drop l.field-index l.field-items)))
