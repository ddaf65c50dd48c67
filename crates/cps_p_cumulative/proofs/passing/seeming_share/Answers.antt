use Rattle.std.proofs.Common.{◌<◌, length}
use Rattle.cps_p_cumulative.proofs.Levelled.{on_change}
use Rattle.cps_p_cumulative.proofs.passing.seeming_share.Goals as goal

pub seeming_change-least-requires : goal.seeming_change-least-requires
seeming_change-least-requires c = on_change (λ i. i < length c.args.past.now.first) c.args.event.now c.requires
