-- The cells of the rows so far are added.
use Rattle.cps_p_lookup.specs.Cells.{AddsRows}
use Rattle.cps_p_lookup.proofs.index.add_column.Given as goal

abbrev pub invariant-loop-row : goal.invariant-loop-row
invariant-loop-row l = AddsRows l.width l.values l.column l.row l.initial.cells.items l.cells.items
