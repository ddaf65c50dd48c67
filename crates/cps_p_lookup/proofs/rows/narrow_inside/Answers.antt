use Rattle.std.proofs.Common.{false}
use Rattle.cps_instance.specs.declared.task.Body.TheVariants.{Table}
use Rattle.cps_p_lookup.proofs.Tables.{live_long}
use Rattle.cps_p_lookup.proofs.Missing.{column_off}
use Rattle.cps_p_lookup.proofs.rows.narrow_inside.Goals as goal

pub copy_column-requires-clause-rows : goal.copy_column-requires-clause-rows
copy_column-requires-clause-rows c = live_long c.args.store.now c.args.column.now.grid.exprs.now c.args.column.now.grid.values.now c.args.column.now.rows.now c.requires.column.rows

pub returns-clause-given : goal.returns-clause-given
returns-clause-given c =
    let s = c.args.store.now in
    let es = c.args.column.now.grid.exprs.now in
    let vs = c.args.column.now.grid.values.now in
    c.in_ok-exclude_missing.ensures.at (Table es vs false) s (column_off s es vs c.args.column.now.rows.now c.args.column.now.place c.copy_column.new.values.items c.requires.column.place c.requires.column.fits c.requires.column.rows c.in_ok-copy_column.ensures) c.requires.given

pub returns-clause-before : goal.returns-clause-before
returns-clause-before c = λ t. c.in_ok-exclude_missing.ensures.before c.args.store.now t
