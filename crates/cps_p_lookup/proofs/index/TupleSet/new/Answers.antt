-- Cells that are sorted are the same cells.
use Rattle.std.proofs.Common.{length}
use Rattle.cps_p_lookup.proofs.Cells.{columns_moved}
use Rattle.cps_p_lookup.proofs.index.TupleSet.new.Goals as goal

pub invariant_of-result : goal.invariant_of-result
invariant_of-result c =
    let sorted = c.sort_cells.new.cells.items in
    record {
      grouped = c.sort_cells.ensures.grouped;
      listed = columns_moved (length c.args.exprs) c.args.values (length c.args.exprs) c.in_ok-cells.cells.items sorted c.sort_cells.ensures.moved
          (rw (c.as_slice.ensures, c.as_slice-2.ensures) at c.in_ok-cells.ensures);
    }
