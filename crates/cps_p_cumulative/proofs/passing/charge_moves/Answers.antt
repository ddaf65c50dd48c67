-- The sum so far is what the first events add, and in the end all.
use Rattle.std.proofs.Common.{◌≡◌, ◌<◌, refl, length, rules, arith}
use Rattle.std.specs.Prelude.{Ok, Some}
use Rattle.std.proofs.lemmas.Int.{ints}
use Rattle.cps_p_cumulative.specs.Levels.{moves_of, tank_body}
use Rattle.cps_instance.specs.Tasks.{subjects_of_body}
use Rattle.cps_p_cumulative.proofs.Levelled.{move_inside, own_move, added-more, added-all, some_number, no_number, ok_is}
use Rattle.cps_p_cumulative.proofs.passing.charge_moves.Goals as goal

pub loop-k-preserved : goal.loop-k-preserved
loop-k-preserved c =
    let l : c.loop-k.k < length (moves_of c.args.tank.now) = (let a = c.count-k-end.ensures in let b = c.loop-k-test.true in omega arith) in
    let added = c.in-Some.added in
    let ok : c.charge_move.result ≡ Ok (Some added) = ok_is c.charge_move.result _ (Some added) c.in_ok-added.was c.in-Some.is in
    added-more c.args.past.now c.args.case.assumed (subjects_of_body (tank_body c.args.tank.now)) c.args.side c.args.case.time (moves_of c.args.tank.now) c.loop-k.k c.move_at.result _ added _ c.args.facts.now.items c.loop-k.facts.items c.charge_move.new.facts.items
    l c.move_at.ensures (own_move c.args.tank.now c.loop-k.k c.move_at.result l c.move_at.ensures) c.loop-k.invariant (c.charge_move.ensures added ok) (let h = c.in-Some-plus_within.ensures in let q = c.loop-k.sum-is in search (rules, ints))

pub returns : goal.returns
returns c = λ v ok.
    let e = some_number _ v ok in
    added-all c.args.past.now c.args.case.assumed (subjects_of_body (tank_body c.args.tank.now)) c.args.side c.args.case.time (moves_of c.args.tank.now) c.loop-k.k _ v c.args.facts.now.items c.loop-k.facts.items
    (let a = c.count-k-end.ensures in let b = c.loop-k-test.false in omega arith) c.loop-k.invariant (let q = c.loop-k.sum-is in search (rules, ints))

pub returns-in_default : goal.returns-in_default
returns-in_default c = λ v ok. no_number _ _ v ok refl

pub returns-in_default-plus_within : goal.returns-in_default-plus_within
returns-in_default-plus_within c = λ v ok. no_number _ _ v ok refl

pub charge_move-requires-clause-event : goal.charge_move-requires-clause-event
charge_move-requires-clause-event c =
    let l : c.loop-k.k < length (moves_of c.args.tank.now) = omega (arith, c.count-k-end.ensures, c.loop-k-test.true) in
    move_inside c.args.past.now.first c.args.tank.now c.loop-k.k c.move_at.result c.requires.tank l c.move_at.ensures
