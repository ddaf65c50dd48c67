-- The first admitted number from the least sum on and the last up to the greatest, where the first is no greater than that.
use Rattle.std.proofs.Common.{rules, FitsSigned, w64}
use Rattle.std.proofs.lemmas.Int.{to_z-of_z}
use Rattle.cps_domain.proofs.Tests.{true_le}
use Rattle.cps_p_linear.proofs.admitted.Admitted.between.Goals as goal

pub returns-then-low-sum : goal.returns-then-low-sum
returns-then-low-sum c =
    let low : FitsSigned w64 c.in_ok-low.low = search rules in
    let high : FitsSigned w64 c.in_ok-high.high = search rules in
    let end : FitsSigned w64 c.args.sum.now.high = search rules in
    let test = simp to_z-of_z at c.if-low-sum.true in
    simp to_z-of_z (record { first = c.in_ok-low.ensures; last = c.in_ok-high.ensures; meet = true_le c.in_ok-low.low c.args.sum.now.high test })
