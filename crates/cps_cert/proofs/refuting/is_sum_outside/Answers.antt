-- The ends are one pair.
use Rattle.std.proofs.Common.{arith, FitsSigned, w64}
use Rattle.std.proofs.lemmas.Int.{to_z-of_z}
use Rattle.cps_model.specs.Within.{is_within}
use Rattle.cps_rup.specs.Domains.{box_in}
use Rattle.cps_subjects.proofs.Near.{near_fits}
use Rattle.cps_cert.proofs.Outside.{outside_if, outside_only}
use Rattle.cps_cert.proofs.refuting.is_sum_outside.Goals as goal

pub returns : goal.returns
returns c =
    let box = box_in c.args.domains.now in
    let low = c.sum_ends-ends.result.low in
    let high = c.sum_ends-ends.result.high in
    let small_low = c.sum_ends-ends.ensures.low in
    let small_high = c.sum_ends-ends.ensures.high in
    let fl : FitsSigned w64 low = near_fits low (omega arith) in
    let fh : FitsSigned w64 high = near_fits high (omega arith) in
    let ends = c.sum_ends-ends.ensures.ends in
    let said = rw (to_z-of_z w64 low fl, to_z-of_z w64 high fh) at c.none_between.ensures in (
      λ h. outside_if box c.args.vars.now c.args.coeffs.now (is_within c.args.bounds.now) low high ends (said.0 h),
      λ h. said.1 (outside_only box c.args.vars.now c.args.coeffs.now (is_within c.args.bounds.now) low high ends h),
    )
