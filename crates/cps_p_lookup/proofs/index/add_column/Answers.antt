-- One row more, and all of them.
use Rattle.std.proofs.Common.{List, ℤ, pos, get_or, ap, rules, arith, FitsSigned, w64}
use Rattle.std.proofs.lemmas.Int.{to_z-of_z}
use Rattle.cps_p_lookup.proofs.Cells.{rows_more, rows_all, word_fits}
use Rattle.cps_p_lookup.proofs.index.add_column.Goals as goal

pub loop-row-preserved : goal.loop-row-preserved
loop-row-preserved c =
    let k = c.args.column in
    let z = get_or c.row_at.result.now k (pos 0) in
    let f : FitsSigned w64 z = search rules in
    let items = rw (to_z-of_z w64 z f) at c.in_ok-push.ensures.items in
    rows_more c.args.width c.args.values.now k c.loop-row.row c.args.cells.now.items c.loop-row.cells.items c.push.new.self.items z (search rules) (word_fits z f)
    (ap (λ (w : List ℤ). get_or w k (pos 0)) c.row_at.ensures.same) items c.loop-row.invariant

pub returns : goal.returns
returns c = rows_all c.args.width c.args.values.now c.args.column c.loop-row.row c.args.cells.now.items c.loop-row.cells.items (omega arith) c.loop-row-test.false c.loop-row.invariant
