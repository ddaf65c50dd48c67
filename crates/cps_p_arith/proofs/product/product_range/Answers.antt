use Rattle.std.proofs.Common.{rules, FitsSigned, arith, pos}
use Rattle.std.proofs.lemmas.Int.{to_z-of_z}
use mir.Syntax.{w128}
use Rattle.cps_p_arith.proofs.Clamping.{product_step}
use Rattle.cps_p_arith.proofs.product.product_range.Goals as goal

pub loop-k-preserved : goal.loop-k-preserved
loop-k-preserved c =
    let l = c.clamped.result in
    let h = c.clamped-in-loop-k.result in
    let fl : FitsSigned w128 l = search rules in
    let fh : FitsSigned w128 h = search rules in
    let wl : FitsSigned w128 c.times-wide.result.low = search rules in
    let wh : FitsSigned w128 c.times-wide.result.high = search rules in
    let low = rw (to_z-of_z w128 c.times-wide.result.low wl) at c.clamped.ensures in
    let high = rw (to_z-of_z w128 c.times-wide.result.high wh) at c.clamped-in-loop-k.ensures in
    let step = product_step c.args.members.now c.loop-k.k (record { low = pos 0; high = pos 0 }) c.loop-k.range c.times-wide.result (record { low = l; high = h })
    c.loop-k-test.true c.loop-k.invariant.within c.loop-k.invariant.range c.times-wide.ensures.sound c.times-wide.ensures.exact c.times-wide.ensures.low c.times-wide.ensures.high low high in
    record { within = omega arith; range = rw (to_z-of_z w128 l fl, to_z-of_z w128 h fh) step }
