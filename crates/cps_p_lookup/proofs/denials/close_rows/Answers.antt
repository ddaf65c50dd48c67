-- One row more is ruled out, or gives the atom; and all of them.
use Rattle.std.proofs.Common.{Ok, List, ap, subst}
use Rattle.std.proofs.lemmas.List.{take_all}
use Rattle.std.specs.List.{All}
use Rattle.cps_p_lookup.specs.declared.index.Cell.{Cell}
use Rattle.cps_p_lookup.specs.Tabling.{IsClosedRow}
use Rattle.cps_p_lookup.proofs.Cells.{no_cell}
use Rattle.cps_p_lookup.proofs.Excluding.{barred_closes}
use Rattle.cps_p_lookup.proofs.Growing.{grows_trans}
use Rattle.cps_p_lookup.proofs.Seeking.{closed_more, closed_gives}
use Rattle.cps_p_lookup.proofs.denials.close_rows.Goals as goal

pub loop-cell-preserved-then-is_barred : goal.loop-cell-preserved-then-is_barred
loop-cell-preserved-then-is_barred c =
    let s = c.args.past.now in
    let es = c.args.rows.now.grid.exprs.now in
    let vs = c.args.rows.now.grid.values.now in
    let facts = c.loop-cell.facts.items in
    let row = c.row_at-values.result.now in
    record {
      grows = c.loop-cell.invariant.grows;
      closed = closed_more s es vs c.args.goal facts facts c.args.rows.now.cells.now c.loop-cell.cell-index no_cell row c.loop-cell-test.true c.row_at-values.ensures.same
          (barred_closes s es row c.args.goal facts (rw c.as_slice-in-loop-cell.ensures.value at (c.is_barred.ensures c.if-is_barred.true))) c.loop-cell.invariant.closed;
    }

pub loop-cell-preserved : goal.loop-cell-preserved
loop-cell-preserved c =
    let s = c.args.past.now in
    let es = c.args.rows.now.grid.exprs.now in
    let vs = c.args.rows.now.grid.values.now in
    let old = c.loop-cell.facts.items in
    let new = c.close_row.new.facts.items in
    let closes = c.in_ok-close_row.ensures (ap Ok c.if-not-branch.false) in
    record {
      grows = grows_trans s es c.push_chosen.new.facts.items old new c.loop-cell.invariant.grows closes.grows;
      closed = closed_more s es vs c.args.goal old new c.args.rows.now.cells.now c.loop-cell.cell-index no_cell c.row_at-values.result.now c.loop-cell-test.true c.row_at-values.ensures.same closes c.loop-cell.invariant.closed;
    }

pub returns : goal.returns
returns c = λ e.
    let s = c.args.past.now in
    let es = c.args.rows.now.grid.exprs.now in
    let vs = c.args.rows.now.grid.values.now in
    let cells = c.args.rows.now.cells.now in
    let facts = c.loop-cell.facts.items in
    closed_gives s es vs c.args.goal c.clear.new.self.items facts cells c.requires.some c.clear.ensures.items (grows_trans s es c.clear.new.self.items c.push_chosen.new.facts.items facts c.in_ok-push_chosen.ensures c.loop-cell.invariant.grows) c.requires.sought
    (subst (λ (cs : List Cell). All (λ (cell : Cell). IsClosedRow es vs c.args.goal facts cell.row) cs) (take_all c.loop-cell.cell-index cells c.loop-cell-test.false) c.loop-cell.invariant.closed)
