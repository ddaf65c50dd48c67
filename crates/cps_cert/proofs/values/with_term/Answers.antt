-- A term and a sum that stay below 2^62 together fit.
use Rattle.std.proofs.Common.{◌+ℤ◌, ◌*ℤ◌, FitsSigned, w64, refl, arith}
use Rattle.std.proofs.lemmas.Int.{fits_signed_from_abs, ints, to_z-of_z, unsigned_abs-mul}
use Rattle.cps_cert.proofs.values.with_term.Goals as goal

pub overflow_mul-result : goal.overflow_mul-result
overflow_mul-result c =
    let a = c.args.coeff in
    let v = c.args.value in
    let fa : FitsSigned w64 a = c.ranges.coeff in
    let fv : FitsSigned w64 v = c.ranges.value in
    simp to_z-of_z (fits_signed_from_abs w64 (a *ℤ v) (let e = unsigned_abs-mul a v in let s = c.requires in omega arith))

pub overflow_add-result : goal.overflow_add-result
overflow_add-result c =
    let t = c.args.sum in
    let a = c.args.coeff in
    let v = c.args.value in
    let ft : FitsSigned w64 t = c.ranges.sum in
    let fa : FitsSigned w64 a = c.ranges.coeff in
    let fv : FitsSigned w64 v = c.ranges.value in
    let e = unsigned_abs-mul a v in
    let s = c.requires in
    let fm : FitsSigned w64 (a *ℤ v) = fits_signed_from_abs w64 (a *ℤ v) (omega arith) in
    simp to_z-of_z (fits_signed_from_abs w64 (t +ℤ a *ℤ v) (omega (arith, ints)))

pub returns : goal.returns
returns c =
    let t = c.args.sum in
    let a = c.args.coeff in
    let v = c.args.value in
    let ft : FitsSigned w64 t = c.ranges.sum in
    let fa : FitsSigned w64 a = c.ranges.coeff in
    let fv : FitsSigned w64 v = c.ranges.value in
    let e = unsigned_abs-mul a v in
    let s = c.requires in
    let fm : FitsSigned w64 (a *ℤ v) = fits_signed_from_abs w64 (a *ℤ v) (omega arith) in
    let fs : FitsSigned w64 (t +ℤ a *ℤ v) = fits_signed_from_abs w64 (t +ℤ a *ℤ v) (omega (arith, ints)) in
    simp to_z-of_z refl
