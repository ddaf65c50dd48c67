-- One column more, and all of them.
use Rattle.cps_p_lookup.proofs.Cells.{columns_more, columns_past}
use Rattle.cps_p_lookup.proofs.index.list_cells.Goals as goal

pub loop-column-preserved : goal.loop-column-preserved
loop-column-preserved c = columns_more c.args.width c.args.values.now c.loop-column.column c.loop-column.cells.items c.add_column.new.cells.items c.in_ok-add_column.ensures c.loop-column.invariant

pub returns : goal.returns
returns c = columns_past c.args.width c.args.values.now c.loop-column.column c.loop-column.cells.items c.loop-column-test.false c.loop-column.invariant
