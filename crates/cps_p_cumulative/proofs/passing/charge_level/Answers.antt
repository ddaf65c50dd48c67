-- Where the sum passes the limit the body cannot hold, beyond 0 once one event has taken place.
use Rattle.std.proofs.Common.{◌≡◌, ◌<◌, ◌<ℤ◌, ◌≤ℤ◌, pos, length, refl, rules, arith, FitsSigned}
use Rattle.std.specs.Prelude.{Ok, Some}
use Rattle.std.specs.Int.{w128}
use Rattle.std.proofs.lemmas.Int.{to_z-of_z}
use Rattle.cps_domain.proofs.Tests.{true_le, false_le}
use Rattle.cps_p_cumulative.specs.Levels.{moves_of}
use Rattle.cps_p_cumulative.proofs.Levelled.{move_inside, passed-room, passed-begun, ok_is, no_yes}
use Rattle.cps_p_cumulative.proofs.passing.charge_level.Goals as goal

pub returns-then-limit-ge0 : goal.returns-then-limit-ge0
returns-then-limit-ge0 c = λ _.
    let v = c.in-Some.sum in
    let lim = c.limit-limit.result in
    let g : FitsSigned w128 v = search rules in
    let h : FitsSigned w128 lim = search rules in
    let ok : c.charge_moves.result ≡ Ok (Some v) = ok_is c.charge_moves.result _ (Some v) c.in_ok-sum.was c.in-Some.is in
    let over : lim <ℤ v = false_le v lim (rw (to_z-of_z w128 v g, to_z-of_z w128 lim h) at c.if-sum-limit.false) in
    let room : pos 0 ≤ℤ lim = true_le (pos 0) lim (rw (to_z-of_z w128 lim h) at c.if-limit-ge0.true) in
    passed-room c.args.past.now c.args.case.assumed c.args.tank.now c.args.point.side c.args.case.time v lim c.args.facts.now.items c.charge_moves.new.facts.items c.limit-limit.ensures over room (c.charge_moves.ensures v ok)

pub returns : goal.returns
returns c = λ done.
    let v = c.in-Some.sum in
    let lim = c.limit-limit.result in
    let g : FitsSigned w128 v = search rules in
    let h : FitsSigned w128 lim = search rules in
    let ok : c.charge_moves.result ≡ Ok (Some v) = ok_is c.charge_moves.result _ (Some v) c.in_ok-sum.was c.in-Some.is in
    let over : lim <ℤ v = false_le v lim (rw (to_z-of_z w128 v g, to_z-of_z w128 lim h) at c.if-sum-limit.false) in
    let l : c.args.point.place < length (moves_of c.args.tank.now) = omega (arith, c.count.ensures, c.if-count-point.false) in
    passed-begun c.args.past.now c.args.case.assumed c.args.tank.now c.args.point.side c.args.case.time v lim c.args.point.place c.move_at.result c.args.facts.now.items c.charge_moves.new.facts.items c.rely_acted.new.facts.items c.limit-limit.ensures over l c.move_at.ensures (c.charge_moves.ensures v ok) (c.rely_acted.ensures done)

pub charge_moves-requires-clause-tank : goal.charge_moves-requires-clause-tank
charge_moves-requires-clause-tank c = c.requires.tank

pub returns-in_default : goal.returns-in_default
returns-in_default c = λ ok. no_yes _ _ ok refl

pub returns-then-sum-limit : goal.returns-then-sum-limit
returns-then-sum-limit c = λ ok. no_yes _ _ ok refl

pub returns-then-count-point : goal.returns-then-count-point
returns-then-count-point c = λ ok. no_yes _ _ ok refl

pub move_at-requires : goal.move_at-requires
move_at-requires c = omega (arith, c.count.ensures, c.if-count-point.false)

pub rely_acted-requires-clause-event : goal.rely_acted-requires-clause-event
rely_acted-requires-clause-event c =
    let l : c.args.point.place < length (moves_of c.args.tank.now) = omega (arith, c.count.ensures, c.if-count-point.false) in
    move_inside c.args.past.now.first c.args.tank.now c.args.point.place c.move_at.result c.requires.tank l c.move_at.ensures

pub rely_acted-requires-clause-facts : goal.rely_acted-requires-clause-facts
rely_acted-requires-clause-facts c = (c.charge_moves.ensures c.in-Some.sum (ok_is c.charge_moves.result _ (Some c.in-Some.sum) c.in_ok-sum.was c.in-Some.is)).facts
