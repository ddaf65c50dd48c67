use Rattle.std.proofs.Common.{◌∙◌, ℕ, ℤ, pos, ap, subst, List, get_or, rules, FitsSigned, w64, length}
use Rattle.std.proofs.lemmas.Int.{to_z-of_z}
use Rattle.std.proofs.lemmas.List.{take_all}
use Rattle.std.specs.List.{All, Contains}
use Rattle.cps_model.specs.Lookups.{row_at}
use Rattle.cps_p_lookup.proofs.Missing.{copied_more}
use Rattle.cps_p_lookup.proofs.rows.copy_column.Goals as goal

pub loop-row-preserved : goal.loop-row-preserved
loop-row-preserved c =
    let k = c.args.column.now.place in
    let z = get_or c.row_at.result.now k (pos 0) in
    let f : FitsSigned w64 z = search rules in
    copied_more (length c.args.column.now.grid.exprs.now) c.args.column.now.grid.values.now k c.args.column.now.rows.now c.loop-row.row-index c.loop-row.values.items c.push.new.self.items _ c.loop-row-test.true c.in_ok-push.ensures.items
    (to_z-of_z w64 z f ∙ ap (λ (w : List ℤ). get_or w k (pos 0)) c.row_at.ensures.same) c.loop-row.invariant

pub returns : goal.returns
returns c = subst (λ (rs : List ℕ). All (λ r. Contains c.loop-row.values.items (get_or (row_at (length c.args.column.now.grid.exprs.now) c.args.column.now.grid.values.now r) c.args.column.now.place (pos 0))) rs) (take_all c.loop-row.row-index c.args.column.now.rows.now c.loop-row-test.false) c.loop-row.invariant
