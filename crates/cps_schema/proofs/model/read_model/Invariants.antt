use Rattle.std.specs.Prelude.{◌≡◌, List, ℕ, [], drop}
use Rattle.cps_textproto.specs.Trees.{field_list}
use Rattle.cps_schema.specs.Inputs.{written_of}
use Rattle.cps_schema.specs.Tables.{model_message}
use Rattle.cps_schema.specs.Faults.{fields_fault}
use Rattle.cps_schema.specs.Readings.{read_model}
use Rattle.cps_schema.specs.Slots.{AreGivenSlots}
use Rattle.cps_schema.specs.Parts.{model_from, model_slots}
use Rattle.cps_schema.proofs.model.read_model.Given as goal

abbrev pub invariant-loop-field : goal.invariant-loop-field
invariant-loop-field l =
    ((before : List (List ℕ)) × (fields_fault (written_of l.input) model_message [] (field_list l.field-items)
    ≡ fields_fault (written_of l.input) model_message before (field_list (drop l.field-index l.field-items)))
    × AreGivenSlots (model_slots l.parts) before)
    × (read_model (written_of l.input) (field_list l.field-items)
    ≡ model_from (written_of l.input) l.parts (field_list (drop l.field-index l.field-items)))
