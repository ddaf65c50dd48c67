use Rattle.std.specs.Prelude.{◌≡◌, ◌++◌, Some, drop}
use Rattle.cps_textproto.specs.Trees.{range_values}
use Rattle.cps_schema.specs.declared.number.Number.TheVariants.{Int32}
use Rattle.cps_schema.specs.Inputs.{written_of}
use Rattle.cps_schema.specs.Tables.{number}
use Rattle.cps_schema.specs.Faults.{values_fault}
use Rattle.cps_schema.specs.Readings.{value_numbers}
use Rattle.cps_schema.proofs.lists.add_ref_ranges.Given as goal

abbrev pub invariant-loop-token_range : goal.invariant-loop-token_range
invariant-loop-token_range l =
    (values_fault (written_of l.input) (Some (number Int32)) (range_values l.token_ranges)
    ≡ values_fault (written_of l.input) (Some (number Int32)) (range_values (drop l.token_range-index l.token_ranges)))
    × (l.initial.list.items ++ value_numbers (written_of l.input) (range_values l.token_ranges)
    ≡ l.list.items ++ value_numbers (written_of l.input) (range_values (drop l.token_range-index l.token_ranges)))
