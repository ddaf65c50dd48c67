-- Each event is one of the tank's.
use Rattle.std.proofs.Common.{◌<◌, length, arith}
use Rattle.cps_p_cumulative.specs.Levels.{moves_of}
use Rattle.cps_p_cumulative.proofs.Levelled.{move_inside}
use Rattle.cps_p_cumulative.proofs.reservoir.propose_at.Goals as goal

pub least_level-level-requires : goal.least_level-level-requires
least_level-level-requires c = c.requires.tank

pub pushes_of-pushes-requires : goal.pushes_of-pushes-requires
pushes_of-pushes-requires c =
    let l : c.loop-j.j < length (moves_of c.args.tank.now) = omega (arith, c.count-j-end.ensures, c.loop-j-test.true) in
    move_inside c.args.past.now.first c.args.tank.now c.loop-j.j c.move_at.result c.requires.tank l c.move_at.ensures

pub offer_some-requires-clause-tank : goal.offer_some-requires-clause-tank
offer_some-requires-clause-tank c = c.requires.tank

pub offer_some-requires-in-loop-j-clause-tank : goal.offer_some-requires-in-loop-j-clause-tank
offer_some-requires-in-loop-j-clause-tank c = c.requires.tank

pub offer_some-requires-in-loop-j-2-clause-tank : goal.offer_some-requires-in-loop-j-2-clause-tank
offer_some-requires-in-loop-j-2-clause-tank c = c.requires.tank
