-- A term and a sum that stay below 2^62 together fit.
use Rattle.std.proofs.Common.{◌^◌, ◌+ℤ◌, ◌*ℤ◌, ◌<◌, ℤ, pos, negsuc, unsigned_abs, FitsSigned, w64, refl, arith}
use Rattle.std.proofs.lemmas.Int.{fits_signed_from_abs, ints, to_z-of_z, unsigned_abs-mul}
use mir.Syntax.{w128}
use Rattle.cps_print.proofs.objective.with_term.Goals as goal

wider : (n : ℤ) → FitsSigned w64 n → FitsSigned w128 n
wider n f = fits_signed_from_abs w128 n (size n f)
  where
    size : (m : ℤ) → FitsSigned w64 m → unsigned_abs m < 2 ^ 127
    size (pos m) g = let h = g.sfits in omega (arith, ints)
    size (negsuc m) g = let h = g.sfits in omega (arith, ints)

pub overflow_mul-result : goal.overflow_mul-result
overflow_mul-result c =
    let a = c.args.coeff in
    let fr : FitsSigned w64 a = c.ranges.coeff in
    let v = c.args.value in
    let fa : FitsSigned w128 a = wider a c.ranges.coeff in
    let fv : FitsSigned w128 v = c.ranges.value in
    rw c.from.ensures (simp to_z-of_z (fits_signed_from_abs w128 (a *ℤ v) (let e = unsigned_abs-mul a v in let s = c.requires in omega arith)))

pub overflow_add-result : goal.overflow_add-result
overflow_add-result c =
    let t = c.args.sum in
    let a = c.args.coeff in
    let fr : FitsSigned w64 a = c.ranges.coeff in
    let v = c.args.value in
    let ft : FitsSigned w128 t = c.ranges.sum in
    let fa : FitsSigned w128 a = wider a c.ranges.coeff in
    let fv : FitsSigned w128 v = c.ranges.value in
    let e = unsigned_abs-mul a v in
    let s = c.requires in
    let fm : FitsSigned w128 (a *ℤ v) = fits_signed_from_abs w128 (a *ℤ v) (omega arith) in
    rw c.from.ensures (simp to_z-of_z (fits_signed_from_abs w128 (t +ℤ a *ℤ v) (omega (arith, ints))))

pub returns : goal.returns
returns c =
    let t = c.args.sum in
    let a = c.args.coeff in
    let fr : FitsSigned w64 a = c.ranges.coeff in
    let v = c.args.value in
    let ft : FitsSigned w128 t = c.ranges.sum in
    let fa : FitsSigned w128 a = wider a c.ranges.coeff in
    let fv : FitsSigned w128 v = c.ranges.value in
    let e = unsigned_abs-mul a v in
    let s = c.requires in
    let fm : FitsSigned w128 (a *ℤ v) = fits_signed_from_abs w128 (a *ℤ v) (omega arith) in
    let fs : FitsSigned w128 (t +ℤ a *ℤ v) = fits_signed_from_abs w128 (t +ℤ a *ℤ v) (omega (arith, ints)) in
    rw c.from.ensures (simp to_z-of_z refl)
