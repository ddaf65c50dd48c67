-- The cells of the columns so far are listed.
use Rattle.cps_p_lookup.specs.Cells.{AreListedTo}
use Rattle.cps_p_lookup.proofs.index.list_cells.Given as goal

abbrev pub invariant-loop-column : goal.invariant-loop-column
invariant-loop-column l = AreListedTo l.width l.values l.column l.cells.items
