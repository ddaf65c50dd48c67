use Rattle.std.specs.Prelude.{◌≡◌, List, ℕ, [], drop}
use Rattle.cps_textproto.specs.Trees.{field_list}
use Rattle.cps_schema.specs.Inputs.{written_of}
use Rattle.cps_schema.specs.Tables.{strategy_message}
use Rattle.cps_schema.specs.Faults.{fields_fault}
use Rattle.cps_schema.specs.Readings.{read_strategy}
use Rattle.cps_schema.specs.Parts.{strategy_from, IsStrategyGiven}
use Rattle.cps_schema.proofs.strategy.read_strategy.Given as goal

abbrev pub invariant-loop-field : goal.invariant-loop-field
invariant-loop-field l =
    ((before : List (List ℕ)) × (fields_fault (written_of l.input) strategy_message [] (field_list l.field-items)
    ≡ fields_fault (written_of l.input) strategy_message before (field_list (drop l.field-index l.field-items)))
    × IsStrategyGiven l.parts before)
    × (read_strategy (written_of l.input) (field_list l.field-items)
    ≡ strategy_from (written_of l.input) l.parts (field_list (drop l.field-index l.field-items)))
