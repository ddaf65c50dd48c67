-- The rows so far are ruled out, or give the atom.
use Rattle.std.proofs.Common.{take}
use Rattle.std.specs.List.{All}
use Rattle.cps_rule.specs.Facts.{Grows}
use Rattle.cps_p_lookup.specs.Tabling.{IsClosedRow}
use Rattle.cps_p_lookup.proofs.denials.close_rows.Given as goal

abbrev pub invariant-loop-cell : goal.invariant-loop-cell
invariant-loop-cell l = record {
  grows : Grows l.past l.rows.grid.exprs.now l.initial.facts.items l.facts.items;
  closed : All (λ cell. IsClosedRow l.rows.grid.exprs.now l.rows.grid.values.now l.goal l.facts.items cell.row) (take l.cell-index l.rows.cells.now);
}
