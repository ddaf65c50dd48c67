use Rattle.std.proofs.Common.{ℕ, ◌/◌, get_or, arith}
use Rattle.std.proofs.lemmas.List.{get_or_default}
use Rattle.std.proofs.lemmas.List.Edits.{map_over_more}
use Rattle.cps_branch.proofs.bump.halve.Goals as goal

pub loop-activity-preserved : goal.loop-activity-preserved
loop-activity-preserved c =
    let xs = c.loop-activity.activities in
    let i = c.loop-activity.activity-index in
    let x = get_or xs i 0 in
    map_over_more (λ (a : ℕ). a / 2) c.args.activities.now xs i x (omega arith) c.loop-activity.invariant (get_or_default xs i 0 x (omega arith))
