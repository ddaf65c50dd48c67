-- What is pushed is an event's time.
use Rattle.std.proofs.Common.{◌<◌, length}
use Rattle.cps_p_cumulative.proofs.Energy.{next_fits}
use Rattle.cps_p_cumulative.proofs.Levelled.{on_time, active_inside}
use Rattle.cps_p_cumulative.proofs.pushes.push_time.Goals as goal

pub ends-early-requires : goal.ends-early-requires
ends-early-requires c = on_time (λ i. i < length c.args.past.now.first) c.args.event.now c.requires

pub is_decided-requires : goal.is_decided-requires
is_decided-requires c = active_inside c.args.past.now.first c.args.event.now c.requires

pub returns-then-bounds-lt0 : goal.returns-then-bounds-lt0
returns-then-bounds-lt0 c = let l = on_time (λ i. i < length c.args.past.now.first) c.args.event.now c.requires in rw c.at_most.ensures l

pub returns-then-is_decided : goal.returns-then-is_decided
returns-then-is_decided c = let l = on_time (λ i. i < length c.args.past.now.first) c.args.event.now c.requires in rw c.at_least.ensures l

pub overflow_add-slack : goal.overflow_add-slack
overflow_add-slack c = next_fits _ (c.is_inside.ensures c.if-not-is_inside.false)
