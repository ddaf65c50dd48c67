-- The end lies past what the bounds of the start and of the size allow.
use mir.Val.{to_z, of_z}
use mir.Syntax.{w64}
use Rattle.cps_p_interval.proofs.Opposing.{opposed_above}
use Rattle.cps_p_interval.proofs.Widening.{one_above}
use Rattle.cps_p_interval.proofs.interval.late_end.Goals as goal

pub returns : goal.returns
returns c =
    let k = c.in_ok-sum.ensures in
    let m = c.in_ok-checked_add.ensures in
    opposed_above _ c.args.places c.requires c.at_most.result c.at_most-2.result c.at_least.result _ _ _ c.at_most.ensures c.at_most-2.ensures c.at_least.ensures (one_above (to_z w64 (of_z w64 c.ends-start_high.result.1)) (to_z w64 (of_z w64 c.ends-size_high.result.1)) c.in_ok-sum.sum c.in_ok-checked_add.field-0 k.0 k.1 m.0 m.1)
