use Rattle.std.specs.Prelude.{◌≡◌, List, ℕ, [], drop}
use Rattle.cps_textproto.specs.Trees.{field_list}
use Rattle.cps_schema.specs.Inputs.{written_of}
use Rattle.cps_schema.specs.Tables.{hint_message}
use Rattle.cps_schema.specs.Faults.{fields_fault}
use Rattle.cps_schema.specs.Readings.{read_hint}
use Rattle.cps_schema.specs.Parts.{hint_from}
use Rattle.cps_schema.proofs.hint.read_hint.Given as goal

abbrev pub invariant-loop-field : goal.invariant-loop-field
invariant-loop-field l =
    ((before : List (List ℕ)) × (fields_fault (written_of l.input) hint_message [] (field_list l.field-items)
    ≡ fields_fault (written_of l.input) hint_message before (field_list (drop l.field-index l.field-items))))
    × (read_hint (written_of l.input) (field_list l.field-items)
    ≡ hint_from (written_of l.input) l.parts (field_list (drop l.field-index l.field-items)))
