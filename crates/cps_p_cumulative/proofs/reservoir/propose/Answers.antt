-- Each level that is looked at is one of the same tank.
use Rattle.std.proofs.Common.{◌<◌, length}
use Rattle.cps_p_cumulative.proofs.Levelled.{on_time, move_inside}
use Rattle.cps_p_cumulative.proofs.reservoir.propose.Goals as goal

pub ends-early-requires : goal.ends-early-requires
ends-early-requires c =
    let first = c.args.past.now.first in
    on_time (λ i. i < length first) c.move_at-event.result (move_inside first c.args.tank.now c.args.k c.move_at-event.result c.requires.tank c.requires.event c.move_at-event.ensures)

pub propose_at-requires-clause-tank : goal.propose_at-requires-clause-tank
propose_at-requires-clause-tank c = c.requires.tank

pub propose_at-requires-2-clause-tank : goal.propose_at-requires-2-clause-tank
propose_at-requires-2-clause-tank c = c.requires.tank

pub propose_at-requires-3-clause-tank : goal.propose_at-requires-3-clause-tank
propose_at-requires-3-clause-tank c = c.requires.tank

pub propose_at-requires-4-clause-tank : goal.propose_at-requires-4-clause-tank
propose_at-requires-4-clause-tank c = c.requires.tank
