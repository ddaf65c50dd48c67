-- The greatest start of the one is compared with the least end of the other.
use Rattle.std.proofs.Common.{rules, FitsSigned}
use Rattle.std.proofs.lemmas.Int.{to_z-of_z}
use mir.Syntax.{w128}
use Rattle.cps_p_boxes.proofs.Boxing.{late_tells, open_tells}
use Rattle.cps_p_boxes.proofs.Boxing.{lt_holds, lt_fails}
use Rattle.cps_p_boxes.proofs.pairs.is_late.Goals as goal

pub returns-clause-late : goal.returns-clause-late
returns-clause-late c =
    let v = c.seen_of-before.result in
    let w = c.seen_of-after.result in
    let f : FitsSigned w128 c.seen_of-before.result.times.start_high = search rules in
    let g : FitsSigned w128 c.seen_of-after.result.times.end_low = search rules in
    simp to_z-of_z (λ t. late_tells v w c.args.direction.now.seen.items c.args.pair c.seen_of-before.ensures c.seen_of-after.ensures (lt_holds v.times.start_high w.times.end_low t))

pub returns-clause-open : goal.returns-clause-open
returns-clause-open c =
    let v = c.seen_of-before.result in
    let w = c.seen_of-after.result in
    let f : FitsSigned w128 c.seen_of-before.result.times.start_high = search rules in
    let g : FitsSigned w128 c.seen_of-after.result.times.end_low = search rules in
    simp to_z-of_z (λ t. open_tells v w c.args.direction.now.seen.items c.args.pair c.seen_of-before.ensures c.seen_of-after.ensures (lt_fails v.times.start_high w.times.end_low t))
