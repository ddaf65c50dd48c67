-- The product of a number below 2^53 and one below 2^64 fits.
use Rattle.std.proofs.Common.{◌^◌, ◌*ℤ◌, FitsSigned, w64, refl, arith}
use Rattle.std.proofs.lemmas.Int.{fits_signed_from_abs, fits_signed_mul, to_z-of_z}
use mir.Syntax.{w128}
use Rattle.cps_print.proofs.objective.scaled.Goals as goal

pub overflow_mul-result : goal.overflow_mul-result
overflow_mul-result c =
    let a = c.args.scaling in
    let fr : FitsSigned w64 a = c.ranges.scaling in
    let v = c.args.value in
    let fa : FitsSigned w128 a = fits_signed_from_abs w128 a (let s = c.requires.scaling in omega arith) in
    let fv : FitsSigned w128 v = c.ranges.value in
    rw c.from.ensures (simp to_z-of_z (fits_signed_mul w128 a v (2 ^ 53) (2 ^ 64) c.requires.scaling (let s = c.requires.value in omega arith) (omega arith)))

pub returns : goal.returns
returns c =
    let a = c.args.scaling in
    let fr : FitsSigned w64 a = c.ranges.scaling in
    let v = c.args.value in
    let fa : FitsSigned w128 a = fits_signed_from_abs w128 a (let s = c.requires.scaling in omega arith) in
    let fv : FitsSigned w128 v = c.ranges.value in
    let fm : FitsSigned w128 (a *ℤ v) = fits_signed_mul w128 a v (2 ^ 53) (2 ^ 64) c.requires.scaling (let s = c.requires.value in omega arith) (omega arith) in
    rw c.from.ensures (simp to_z-of_z refl)
