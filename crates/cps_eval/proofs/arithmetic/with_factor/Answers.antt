-- The product of two numbers below 2^62 in magnitude fits, and is below 2^124.
use Rattle.std.proofs.Common.{◌^◌, ◌*ℤ◌, ◌<◌, ◌≤◌, ◌-◌, unsigned_abs, FitsSigned, w64, refl, arith, mul-le-mul}
use Rattle.std.proofs.lemmas.Int.{fits_signed_from_abs, fits_signed_mul, to_z-of_z, unsigned_abs-mul}
use mir.Syntax.{w128}
use Rattle.cps_eval.proofs.arithmetic.with_factor.Goals as goal

pub overflow_mul-result : goal.overflow_mul-result
overflow_mul-result c =
    let a = c.args.factor in
    let fr : FitsSigned w64 a = c.ranges.factor in
    let v = c.args.product in
    let fa : FitsSigned w128 a = fits_signed_from_abs w128 a (let s = c.requires.factor in omega arith) in
    let fv : FitsSigned w128 v = c.ranges.product in
    rw c.from.ensures (simp to_z-of_z (fits_signed_mul w128 a v (2 ^ 62) (2 ^ 62) (let s = c.requires.factor in omega arith) (let s = c.requires.product in omega arith) (omega arith)))

pub returns-clause-value : goal.returns-clause-value
returns-clause-value c =
    let a = c.args.factor in
    let fr : FitsSigned w64 a = c.ranges.factor in
    let v = c.args.product in
    let fa : FitsSigned w128 a = fits_signed_from_abs w128 a (let s = c.requires.factor in omega arith) in
    let fv : FitsSigned w128 v = c.ranges.product in
    let fm : FitsSigned w128 (a *ℤ v) = fits_signed_mul w128 a v (2 ^ 62) (2 ^ 62) (let s = c.requires.factor in omega arith) (let s = c.requires.product in omega arith) (omega arith) in
    rw c.from.ensures (simp to_z-of_z refl)

pub returns-clause-near : goal.returns-clause-near
returns-clause-near c =
    let a = c.args.factor in
    let fr : FitsSigned w64 a = c.ranges.factor in
    let v = c.args.product in
    let fa : FitsSigned w128 a = fits_signed_from_abs w128 a (let s = c.requires.factor in omega arith) in
    let fv : FitsSigned w128 v = c.ranges.product in
    let fm : FitsSigned w128 (a *ℤ v) = fits_signed_mul w128 a v (2 ^ 62) (2 ^ 62) (let s = c.requires.factor in omega arith) (let s = c.requires.product in omega arith) (omega arith) in
    let near : unsigned_abs (a *ℤ v) < 2 ^ 124 = (let e = unsigned_abs-mul a v in let p = c.requires.factor in let q = c.requires.product in let least : unsigned_abs a ≤ 2 ^ 62 - 1 = omega arith in let other : unsigned_abs v ≤ 2 ^ 62 - 1 = omega arith in let both = mul-le-mul least other in omega (arith, e, both)) in
    rw c.from.ensures (simp to_z-of_z near)
