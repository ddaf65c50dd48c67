use Rattle.std.specs.Prelude.{◌≡◌, List, ℕ, [], drop}
use Rattle.cps_textproto.specs.Trees.{field_list}
use Rattle.cps_schema.specs.Inputs.{written_of}
use Rattle.cps_schema.specs.Tables.{variable_message}
use Rattle.cps_schema.specs.Faults.{fields_fault}
use Rattle.cps_schema.specs.Readings.{read_variable}
use Rattle.cps_schema.specs.Slots.{AreGivenSlots}
use Rattle.cps_schema.specs.Parts.{variable_from, variable_slots}
use Rattle.cps_schema.proofs.variable.read_variable.Given as goal

abbrev pub invariant-loop-field : goal.invariant-loop-field
invariant-loop-field l =
    ((before : List (List ℕ)) × (fields_fault (written_of l.input) variable_message [] (field_list l.field-items)
    ≡ fields_fault (written_of l.input) variable_message before (field_list (drop l.field-index l.field-items)))
    × AreGivenSlots (variable_slots l.parts) before)
    × (read_variable (written_of l.input) (field_list l.field-items)
    ≡ variable_from (written_of l.input) l.parts (field_list (drop l.field-index l.field-items)))
