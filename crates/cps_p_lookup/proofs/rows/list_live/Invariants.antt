use Rattle.std.proofs.Common.{take}
use Rattle.std.specs.List.{All, Contains}
use Rattle.cps_p_lookup.specs.Tabling.{IsLive}
use Rattle.cps_p_lookup.proofs.rows.list_live.Given as goal

abbrev pub invariant-loop-cell : goal.invariant-loop-cell
invariant-loop-cell l = record {
  each : All (IsLive l.store l.grid.exprs.now l.grid.values.now) l.rows.items;
  every : All (λ cell. IsLive l.store l.grid.exprs.now l.grid.values.now cell.row → Contains l.rows.items cell.row) (take l.cell-index l.cells);
}
