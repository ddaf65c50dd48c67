use Rattle.std.proofs.Common.{pos, get_or, take, length}
use Rattle.std.specs.List.{All, Contains}
use Rattle.cps_model.specs.Lookups.{row_at}
use Rattle.cps_p_lookup.proofs.rows.copy_column.Given as goal

abbrev pub invariant-loop-row : goal.invariant-loop-row
invariant-loop-row l = All (λ r. Contains l.values.items (get_or (row_at (length l.column.grid.exprs.now) l.column.grid.values.now r) l.column.place (pos 0))) (take l.row-index l.rows)
