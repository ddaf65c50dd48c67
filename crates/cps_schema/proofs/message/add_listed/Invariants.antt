-- What is left decides, and what was read so far and what is left are all.
use Rattle.std.specs.Prelude.{◌≡◌, ◌++◌, map, drop}
use Rattle.cps_schema.specs.Inputs.{written_of}
use Rattle.cps_schema.specs.Values.{nested_trees, trees_fault}
use Rattle.cps_schema.proofs.message.add_listed.Given as goal

abbrev pub invariant-loop-nested : goal.invariant-loop-nested
invariant-loop-nested g l =
    (trees_fault (written_of l.input) g.M.Message.fields (nested_trees l.list)
    ≡ trees_fault (written_of l.input) g.M.Message.fields (nested_trees (drop l.nested-index l.list)))
    × (l.fn.values.items ++ map (g.M.Message.reads (written_of l.input)) (nested_trees l.list)
    ≡ l.values.items ++ map (g.M.Message.reads (written_of l.input)) (nested_trees (drop l.nested-index l.list)))
