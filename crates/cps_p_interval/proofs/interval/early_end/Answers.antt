-- The end lies before what the bounds of the start and of the size allow.
use mir.Val.{to_z, of_z}
use mir.Syntax.{w64}
use Rattle.cps_p_interval.proofs.Opposing.{opposed_below, opposed_early}
use Rattle.cps_p_interval.proofs.Widening.{one_below, one_less}
use Rattle.cps_p_interval.proofs.interval.early_end.Goals as goal

pub returns : goal.returns
returns c =
    let k = c.in_ok-sum.ensures in
    let m = c.in_ok-checked_sub-2.ensures in
    opposed_below _ c.args.places c.requires c.at_least-start.result c.at_least.result c.at_most-2.result _ _ _ c.at_least-start.ensures c.at_least.ensures c.at_most-2.ensures (one_below (to_z w64 (of_z w64 c.ends-start_low.result.0)) (to_z w64 (of_z w64 c.ends-size_low.result.0)) c.in_ok-sum.sum c.in_ok-checked_sub-2.field-0 k.0 k.1 m.0 m.1)

pub returns-then-size_low-le0 : goal.returns-then-size_low-le0
returns-then-size_low-le0 c =
    let m = c.in_ok-checked_sub.ensures in
    opposed_early _ c.args.places c.requires c.at_least-start.result c.at_most.result _ _ c.at_least-start.ensures c.at_most.ensures (one_less c.ends-start_low.result.0 c.in_ok-checked_sub.field-0 m.0 m.1)
