-- The differences are small enough, by what is required of the ends.
use Rattle.std.proofs.Common.{◌-ℤ◌, rules, FitsSigned, w64}
use Rattle.std.proofs.lemmas.Int.{to_z-of_z}
use Rattle.cps_p_linear.proofs.SpareRoom.{beside_fits, difference_fits}
use Rattle.cps_p_linear.proofs.pass.room_beside.Goals as goal

pub overflow_sub-result-2 : goal.overflow_sub-result-2
overflow_sub-result-2 c =
    let fg : FitsSigned w64 c.args.goal.now.low = search rules in
    let fs : FitsSigned w64 c.args.sum.now.high = search rules in
    let fo : FitsSigned w64 c.args.own.now.high = search rules in
    let rest : FitsSigned w64 (c.args.sum.now.high -ℤ c.args.own.now.high) = beside_fits c.args.goal.now.low (c.args.sum.now.high -ℤ c.args.own.now.high) c.requires.low in
    simp to_z-of_z (difference_fits c.args.goal.now.low (c.args.sum.now.high -ℤ c.args.own.now.high) c.requires.low)

pub overflow_sub-result-4 : goal.overflow_sub-result-4
overflow_sub-result-4 c =
    let fg : FitsSigned w64 c.args.goal.now.high = search rules in
    let fs : FitsSigned w64 c.args.sum.now.low = search rules in
    let fo : FitsSigned w64 c.args.own.now.low = search rules in
    let rest : FitsSigned w64 (c.args.sum.now.low -ℤ c.args.own.now.low) = beside_fits c.args.goal.now.high (c.args.sum.now.low -ℤ c.args.own.now.low) c.requires.high in
    simp to_z-of_z (difference_fits c.args.goal.now.high (c.args.sum.now.low -ℤ c.args.own.now.low) c.requires.high)

pub returns-clause-low : goal.returns-clause-low
returns-clause-low c =
    let fg : FitsSigned w64 c.args.goal.now.low = search rules in
    let fs : FitsSigned w64 c.args.sum.now.high = search rules in
    let fo : FitsSigned w64 c.args.own.now.high = search rules in
    let rest : FitsSigned w64 (c.args.sum.now.high -ℤ c.args.own.now.high) = beside_fits c.args.goal.now.low (c.args.sum.now.high -ℤ c.args.own.now.high) c.requires.low in
    let room : FitsSigned w64 (c.args.goal.now.low -ℤ (c.args.sum.now.high -ℤ c.args.own.now.high)) = difference_fits c.args.goal.now.low (c.args.sum.now.high -ℤ c.args.own.now.high) c.requires.low in
    simp to_z-of_z

pub returns-clause-high : goal.returns-clause-high
returns-clause-high c =
    let fg : FitsSigned w64 c.args.goal.now.high = search rules in
    let fs : FitsSigned w64 c.args.sum.now.low = search rules in
    let fo : FitsSigned w64 c.args.own.now.low = search rules in
    let rest : FitsSigned w64 (c.args.sum.now.low -ℤ c.args.own.now.low) = beside_fits c.args.goal.now.high (c.args.sum.now.low -ℤ c.args.own.now.low) c.requires.high in
    let room : FitsSigned w64 (c.args.goal.now.high -ℤ (c.args.sum.now.low -ℤ c.args.own.now.low)) = difference_fits c.args.goal.now.high (c.args.sum.now.low -ℤ c.args.own.now.low) c.requires.high in
    simp to_z-of_z
