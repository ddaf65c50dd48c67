use Rattle.std.proofs.Common.{◌<◌, length}
use Rattle.cps_p_cumulative.proofs.Levelled.{on_change}
use Rattle.cps_p_cumulative.proofs.pushes.bounds_of.Goals as goal

pub ends-low-requires : goal.ends-low-requires
ends-low-requires c = on_change (λ i. i < length c.args.past.now.first) c.args.event.now c.requires
