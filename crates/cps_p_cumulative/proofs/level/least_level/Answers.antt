-- The sum so far is the level of the first events, and in the end of all.
use Rattle.std.proofs.Common.{refl, ◌≡◌, ◌<◌, ◌+ℤ◌, length, rules, arith, FitsSigned, w64, to_z}
use Rattle.std.specs.Int.{w128}
use Rattle.std.proofs.lemmas.Int.{ints, to_z-of_z}
use Rattle.cps_p_cumulative.specs.Levels.{moves_of}
use Rattle.cps_p_cumulative.proofs.Levelled.{level_more, level_all, near_step}
use Rattle.cps_p_cumulative.proofs.level.least_level.Goals as goal

pub loop-k-preserved : goal.loop-k-preserved
loop-k-preserved c =
    let l : c.loop-k.k < length (moves_of c.args.tank.now) = (let a = c.count-k-end.ensures in let b = c.loop-k-test.true in omega arith) in
    let t = c.args.time in
    let v = to_z w128 c.loop-k.sum-bits in
    let w = c.share.result in
    let x = c.plus-sum.result in
    let f : FitsSigned w64 t = search rules in
    let g : FitsSigned w128 x = search rules in
    let h : FitsSigned w128 w = search rules in
    let held = rw (to_z-of_z w64 t f) at c.loop-k.invariant.level in
    let here = rw (to_z-of_z w64 t f) at c.share.ensures in
    let step : x ≡ v +ℤ w = (let e = c.plus-sum.ensures in search (rules, ints)) in
    rw (to_z-of_z w64 t f, to_z-of_z w128 x g) (record {
      level = level_more c.args.past.now t c.args.side (moves_of c.args.tank.now) c.loop-k.k c.move_at.result v w x l c.move_at.ensures held here step;
      near = near_step c.loop-k.k v w x step c.loop-k.invariant.near c.share.ensures.near;
    })

pub returns : goal.returns
returns c =
    let t = c.args.time in
    let f : FitsSigned w64 t = search rules in
    let held = rw (to_z-of_z w64 t f) at c.loop-k.invariant.level in
    level_all c.args.past.now t c.args.side (moves_of c.args.tank.now) c.loop-k.k _ _ (omega (arith, c.count-k-end.ensures, c.loop-k-test.false)) refl held
