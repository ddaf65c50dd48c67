-- The rows so far that are open are listed, and no other.
use Rattle.std.proofs.Common.{ℕ, ◌+◌, ◌∙◌, List, sym, ap, subst, length, take, get_or}
use Rattle.std.proofs.lemmas.List.{take_all}
use Rattle.std.specs.List.{All, Contains}
use Rattle.std.proofs.lemmas.List.Elements.{All-get_or, All-push}
use Rattle.cps_p_lookup.specs.declared.index.Cell.{Cell}
use Rattle.cps_p_lookup.specs.Cells.{IsCellIn}
use Rattle.cps_p_lookup.specs.Tabling.{IsLive}
use Rattle.cps_p_lookup.proofs.Cells.{no_cell}
use Rattle.cps_p_lookup.proofs.Tables.{live_one, live_push, live_skip}
use Rattle.cps_p_lookup.proofs.rows.list_live.Goals as goal
use Rattle.cps_p_lookup.proofs.rows.list_live.Goals.{then-is_open+in_ok-push, else-is_open}

pub row_at-requires : goal.row_at-requires
row_at-requires c = (All-get_or (IsCellIn (length c.args.grid.now.exprs.now) c.args.grid.now.values.now) c.args.cells.now c.loop-cell.cell-index no_cell c.loop-cell-test.true c.requires.cells).within

pub returns : goal.returns
returns c =
    let s = c.args.store.now in
    let es = c.args.grid.now.exprs.now in
    let vs = c.args.grid.now.values.now in
    record {
      each = c.loop-cell.invariant.each;
      every = subst (λ (cs : List Cell). All (λ (cell : Cell). IsLive s es vs cell.row → Contains c.loop-cell.rows.items cell.row) cs) (take_all c.loop-cell.cell-index c.args.cells.now c.loop-cell-test.false) c.loop-cell.invariant.every;
    }

pub loop-cell-preserved : goal.loop-cell-preserved
loop-cell-preserved c =
    let s = c.args.store.now in
    let es = c.args.grid.now.exprs.now in
    let vs = c.args.grid.now.values.now in
    let cells = c.args.cells.now in
    let k = c.loop-cell.cell-index in
    let row = c.row_at.result.now in
    let inv = c.loop-cell.invariant in
    let inside = (All-get_or (IsCellIn (length es) vs) cells k no_cell c.loop-cell-test.true c.requires.cells).within in
    elim c.if-is_open.branch [
      | then-is_open+in_ok-push w ↦
          (let is = ap (λ v. v.items) w.rows-is ∙ w.in_ok-push.ensures.items in
          let one = live_one s es vs (get_or cells k no_cell).row row c.row_at.ensures.same inside (c.is_open.ensures.yes w.if-is_open.true) in
          record {
            each = subst (λ (rs : List ℕ). All (IsLive s es vs) rs) (sym is) (All-push (IsLive s es vs) c.loop-cell.rows.items (get_or cells k no_cell).row inv.each one);
            every = live_push s es vs cells k no_cell c.loop-cell.rows.items c.if-is_open.rows.items c.loop-cell-test.true is inv.every;
          })
      | else-is_open w ↦
          (let is = ap (λ v. v.items) w.rows-is in
          record {
            each = subst (λ (rs : List ℕ). All (IsLive s es vs) rs) (sym is) inv.each;
            every = subst (λ (rs : List ℕ). All (λ (cell : Cell). IsLive s es vs cell.row → Contains rs cell.row) (take (k + 1) cells)) (sym is) (live_skip s es vs cells k no_cell c.loop-cell.rows.items row c.loop-cell-test.true c.row_at.ensures.same (c.is_open.ensures.dead w.if-is_open.false) inv.every);
          })
    ]
