-- A product below 2^62 in magnitude fits.
use Rattle.std.proofs.Common.{◌*ℤ◌, FitsSigned, w64, arith}
use Rattle.std.proofs.lemmas.Int.{fits_signed_from_abs, to_z-of_z, unsigned_abs-mul}
use Rattle.cps_validate.proofs.ranges.term_at.Goals as goal

pub overflow_mul-product : goal.overflow_mul-product
overflow_mul-product c =
    let a = c.args.coeff in
    let v = c.args.value in
    let fa : FitsSigned w64 a = c.ranges.coeff in
    let fv : FitsSigned w64 v = c.ranges.value in
    simp to_z-of_z (fits_signed_from_abs w64 (a *ℤ v) (let e = unsigned_abs-mul a v in let s = c.requires in omega arith))
