use Rattle.std.specs.Prelude.{◌≡◌, List, ℕ, [], drop, map}
use Rattle.cps_textproto.specs.Trees.{field_list}
use Rattle.cps_schema.specs.Inputs.{written_of}
use Rattle.cps_schema.specs.Tables.{Message}
use Rattle.cps_schema.specs.Faults.{fields_fault}
use Rattle.cps_schema.specs.Gathered.{IsTableOf, IsGathered, found, lines_of, all_from}
use Rattle.cps_schema.proofs.gather.gather.Given as goal

abbrev pub invariant-loop-field : goal.invariant-loop-field
invariant-loop-field l = record {
  lines : lines_of l.parts.slots.items ≡ l.lines;
  accepted : (before : List (List ℕ)) × ((m : Message) → IsTableOf m l.lines →
      (fields_fault (written_of l.input) m [] (field_list l.field-items)
      ≡ fields_fault (written_of l.input) m before (field_list (drop l.field-index l.field-items)))
      × IsGathered m l.parts before);
  reading : map (found (written_of l.input) (field_list l.field-items)) l.lines
      ≡ all_from (written_of l.input) l.parts.slots.items (field_list (drop l.field-index l.field-items));
}
