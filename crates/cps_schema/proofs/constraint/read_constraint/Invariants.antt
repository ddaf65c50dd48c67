use Rattle.std.specs.Prelude.{◌≡◌, List, ℕ, [], drop}
use Rattle.cps_textproto.specs.Trees.{field_list}
use Rattle.cps_schema.specs.Inputs.{written_of}
use Rattle.cps_schema.specs.Tables.{constraint_message}
use Rattle.cps_schema.specs.Faults.{fields_fault}
use Rattle.cps_schema.specs.Readings.{read_constraint}
use Rattle.cps_schema.specs.Parts.{constraint_from, IsConstraintGiven}
use Rattle.cps_schema.proofs.constraint.read_constraint.Given as goal

abbrev pub invariant-loop-field : goal.invariant-loop-field
invariant-loop-field l =
    ((before : List (List ℕ)) × (fields_fault (written_of l.input) constraint_message [] (field_list l.field-items)
    ≡ fields_fault (written_of l.input) constraint_message before (field_list (drop l.field-index l.field-items)))
    × IsConstraintGiven l.parts before)
    × (read_constraint (written_of l.input) (field_list l.field-items)
    ≡ constraint_from (written_of l.input) l.parts (field_list (drop l.field-index l.field-items)))
