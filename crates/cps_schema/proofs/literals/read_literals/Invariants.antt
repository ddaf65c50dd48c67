use Rattle.std.specs.Prelude.{◌≡◌, ◌++◌, List, ℕ, [], drop, codes}
use Rattle.cps_textproto.specs.Trees.{field_list}
use Rattle.cps_schema.specs.Inputs.{written_of}
use Rattle.cps_schema.specs.Tables.{literals_message}
use Rattle.cps_schema.specs.Faults.{fields_fault}
use Rattle.cps_schema.specs.Readings.{numbers}
use Rattle.cps_schema.proofs.literals.read_literals.Given as goal

abbrev pub invariant-loop-field : goal.invariant-loop-field
invariant-loop-field l =
    ((before : List (List ℕ)) × (fields_fault (written_of l.input) literals_message [] (field_list l.field-items)
    ≡ fields_fault (written_of l.input) literals_message before (field_list (drop l.field-index l.field-items))))
    × (numbers (written_of l.input) (codes "literals") (field_list l.field-items)
    ≡ l.literals.items ++ numbers (written_of l.input) (codes "literals") (field_list (drop l.field-index l.field-items)))
