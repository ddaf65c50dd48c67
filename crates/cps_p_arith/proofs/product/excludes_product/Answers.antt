use Rattle.std.proofs.Common.{rules, FitsSigned, w64}
use Rattle.cps_p_arith.proofs.Clamping.{product_off, product_at, may_multiply}
use Rattle.cps_p_arith.proofs.Scaling.{fits_between}
use Rattle.cps_p_arith.proofs.product.excludes_product.Goals as goal

pub returns-then-is_apart-clause-sound : goal.returns-then-is_apart-clause-sound
returns-then-is_apart-clause-sound c = λ t v ns at within e.
    let fl : FitsSigned w64 c.args.target.low = search rules in
    let fh : FitsSigned w64 c.args.target.high = search rules in
    product_off c.args.members.now c.product_range-range.result c.args.target v ns (fits_between c.args.target.low c.args.target.high v fl fh at) c.product_range-range.ensures (c.is_apart.ensures.apart (search rules)) at within e

pub returns-else-is_apart-clause-sound : goal.returns-else-is_apart-clause-sound
returns-else-is_apart-clause-sound c = λ t v ns at within e. c.excludes_signs.ensures t v ns at within e

pub returns-else-is_apart-clause-exact : goal.returns-else-is_apart-clause-exact
returns-else-is_apart-clause-exact c = λ f v ns at fixed.
    let fl : FitsSigned w64 c.args.target.low = search rules in
    let fv : FitsSigned w64 v = rw at.from at fl in
    let off = c.if-is_apart.false in
    product_at c.args.members.now c.product_range-range.result c.args.target v ns fv c.product_range-range.ensures (c.is_apart.ensures.from off) (c.is_apart.ensures.to off) at fixed

pub returns-else-is_apart-clause-possible : goal.returns-else-is_apart-clause-possible
returns-else-is_apart-clause-possible c = λ f o all.
    let fl : FitsSigned w64 c.args.target.low = search rules in
    let fh : FitsSigned w64 c.args.target.high = search rules in
    let off = c.if-is_apart.false in
    may_multiply c.args.members.now c.product_range-range.result c.args.target fl fh c.product_range-range.ensures (c.is_apart.ensures.from off) (c.is_apart.ensures.to off) o all
