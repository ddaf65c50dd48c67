-- The subjects of an event are those of the store.
use Rattle.std.proofs.Common.{◌<◌, length}
use Rattle.cps_p_cumulative.proofs.Levelled.{on_time}
use Rattle.cps_p_cumulative.proofs.passing.seems_acting.Goals as goal

pub is_known-requires : goal.is_known-requires
is_known-requires c = let l = on_time (λ i. i < length c.args.past.now.first) c.args.event.now c.requires in rw c.at_most.ensures l
