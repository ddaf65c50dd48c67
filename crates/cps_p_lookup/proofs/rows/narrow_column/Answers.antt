use Rattle.std.proofs.Common.{◌∙◌, false, get_or, rules, FitsSigned, w64}
use Rattle.std.proofs.lemmas.Int.{to_z-of_z}
use Rattle.cps_instance.specs.declared.task.Body.TheVariants.{Table}
use Rattle.cps_p_lookup.proofs.Ending.{low_given, high_given, ends_live}
use Rattle.cps_p_lookup.proofs.Tables.{live_long}
use Rattle.cps_p_lookup.proofs.rows.narrow_column.Goals as goal

pub ends-low-requires-clause-rows : goal.ends-low-requires-clause-rows
ends-low-requires-clause-rows c = live_long c.args.store.now c.args.column.now.grid.exprs.now c.args.column.now.grid.values.now c.args.column.now.rows.now c.requires.column.rows

pub returns-clause-given : goal.returns-clause-given
returns-clause-given c =
    let s = c.args.store.now in
    let col = c.args.column.now in
    let low = c.ends-low.result.0 in
    let high = c.ends-low.result.1 in
    let fl : FitsSigned w64 low = search rules in
    let fh : FitsSigned w64 high = search rules in
    c.in_ok-bound.ensures.at (Table col.grid.exprs.now col.grid.values.now false) (rw (to_z-of_z w64 low fl) (low_given s col low high c.requires.column c.ends-low.ensures)) (rw (to_z-of_z w64 high fh) (high_given s col low high c.requires.column c.ends-low.ensures)) c.requires.given

pub returns-clause-rests : goal.returns-clause-rests
returns-clause-rests c =
    let s = c.args.store.now in
    let col = c.args.column.now in
    let low = c.ends-low.result.0 in
    let high = c.ends-low.result.1 in
    let fl : FitsSigned w64 low = search rules in
    let fh : FitsSigned w64 high = search rules in
    let r = rw (to_z-of_z w64 low fl, to_z-of_z w64 high fh) at c.in_ok-bound.ensures.rests in
    record { before = r.before; left = λ trues. ends_live s col low high c.requires.column c.ends-low.ensures (r.left trues) }
