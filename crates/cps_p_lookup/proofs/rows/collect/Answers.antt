-- Each row that is left has a cell among those of the column.
use Rattle.cps_p_lookup.proofs.Tables.{live_all}
use Rattle.cps_p_lookup.proofs.rows.collect.Goals as goal

pub list_live-requires : goal.list_live-requires
list_live-requires c = record {
  fits = rw (c.grid.ensures.exprs) c.requires.fits;
  cells = rw (c.grid.ensures.exprs, c.grid.ensures.values) c.cells_left-cells.ensures.each;
}

pub returns : goal.returns
returns c = live_all c.args.store.now c.args.tuples.now.exprs c.args.tuples.now.values c.narrowest-column.result c.cells_left-cells.result.now c.list_live.new.rows.items c.cells_left-cells.ensures.every
    (rw (c.grid.ensures.exprs, c.grid.ensures.values) at c.in_ok-list_live.ensures)
