use Rattle.std.proofs.Common.{◌∙◌, ℤ, pos, ap, List, get_or, rules, FitsSigned, w64}
use Rattle.std.proofs.lemmas.Int.{to_z-of_z}
use Rattle.cps_p_lookup.proofs.Ending.{ends_more}
use Rattle.cps_p_lookup.proofs.rows.ends.Goals as goal

pub loop-row-preserved : goal.loop-row-preserved
loop-row-preserved c =
    let col = c.args.column.now in
    let k = col.place in
    let z = get_or c.row_at-in-loop-row.result.now k (pos 0) in
    let m = c.min-low.result in
    let n = c.max-high.result in
    let f : FitsSigned w64 z = search rules in
    let fm : FitsSigned w64 m = search rules in
    let fn : FitsSigned w64 n = search rules in
    ends_more col col.rows.now c.loop-row.row-index _ _ _ _ _ c.loop-row-test.true (to_z-of_z w64 z f ∙ ap (λ (w : List ℤ). get_or w k (pos 0)) c.row_at-in-loop-row.ensures.same)
    (to_z-of_z w64 m fm ∙ c.min-low.ensures.value) (to_z-of_z w64 n fn ∙ c.max-high.ensures.value) c.loop-row.invariant
