-- The level passes no limit after the events so far, and in the end after none.
use Rattle.std.proofs.Common.{◌<◌, length, arith}
use Rattle.cps_p_cumulative.specs.Levels.{moves_of}
use Rattle.cps_p_cumulative.proofs.Levelled.{on_time, move_inside, room_more, at_rest_of, no_some}
use Rattle.cps_p_cumulative.proofs.level.passing.Goals as goal

pub ends-requires : goal.ends-requires
ends-requires c =
    let first = c.args.past.now.first in
    let l : c.loop-k.k < length (moves_of c.args.tank.now) = (let a = c.count-k-end.ensures in let b = c.loop-k-test.true in omega arith) in
    on_time (λ i. i < length first) c.move_at-event.result (move_inside first c.args.tank.now c.loop-k.k c.move_at-event.result c.requires.tank l c.move_at-event.ensures)

pub ends-requires-then-passes-2 : goal.ends-requires-then-passes-2
ends-requires-then-passes-2 c =
    let first = c.args.past.now.first in
    let l : c.loop-k.k < length (moves_of c.args.tank.now) = (let a = c.count-k-end.ensures in let b = c.loop-k-test.true in omega arith) in
    on_time (λ i. i < length first) c.move_at-event.result (move_inside first c.args.tank.now c.loop-k.k c.move_at-event.result c.requires.tank l c.move_at-event.ensures)

pub loop-k-preserved : goal.loop-k-preserved
loop-k-preserved c =
    let l : c.loop-k.k < length (moves_of c.args.tank.now) = (let a = c.count-k-end.ensures in let b = c.loop-k-test.true in omega arith) in
    room_more c.args.past.now c.args.tank.now c.loop-k.k c.move_at-event.result l c.move_at-event.ensures c.loop-k.invariant (c.passes.ensures.room c.if-passes.false) (c.passes-in-loop-k.ensures.room c.if-passes-2.false)

pub returns-clause-kept : goal.returns-clause-kept
returns-clause-kept c = λ e.
    at_rest_of c.args.past.now c.args.tank.now c.loop-k.k c.requires.zero (let a = c.count-k-end.ensures in let b = c.loop-k-test.false in omega arith) c.loop-k.invariant

pub passes-requires-clause-tank : goal.passes-requires-clause-tank
passes-requires-clause-tank c = c.requires.tank

pub passes-requires-in-loop-k-clause-tank : goal.passes-requires-in-loop-k-clause-tank
passes-requires-in-loop-k-clause-tank c = c.requires.tank

pub returns-then-passes-clause-over : goal.returns-then-passes-clause-over
returns-then-passes-clause-over c = c.passes.ensures.over c.if-passes.true

pub returns-then-passes-2-clause-over : goal.returns-then-passes-2-clause-over
returns-then-passes-2-clause-over c = c.passes-in-loop-k.ensures.over c.if-passes-2.true

pub returns-then-passes-clause-kept : goal.returns-then-passes-clause-kept
returns-then-passes-clause-kept c = λ none. no_some _ _ none

pub returns-then-passes-2-clause-kept : goal.returns-then-passes-2-clause-kept
returns-then-passes-2-clause-kept c = λ none. no_some _ _ none

pub passes-requires-clause-event : goal.passes-requires-clause-event
passes-requires-clause-event c =
    let l : c.loop-k.k < length (moves_of c.args.tank.now) = omega (arith, c.count-k-end.ensures, c.loop-k-test.true) in
    move_inside c.args.past.now.first c.args.tank.now c.loop-k.k c.move_at-event.result c.requires.tank l c.move_at-event.ensures

pub passes-requires-in-loop-k-clause-event : goal.passes-requires-in-loop-k-clause-event
passes-requires-in-loop-k-clause-event c =
    let l : c.loop-k.k < length (moves_of c.args.tank.now) = omega (arith, c.count-k-end.ensures, c.loop-k-test.true) in
    move_inside c.args.past.now.first c.args.tank.now c.loop-k.k c.move_at-event.result c.requires.tank l c.move_at-event.ensures
