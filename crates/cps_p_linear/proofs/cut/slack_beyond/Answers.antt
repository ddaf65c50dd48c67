-- The quotient's multiple is nearer to the dividend than the divisor is far from 0.
use Rattle.std.specs.Prelude.{unsigned_abs}
use Rattle.std.proofs.Common.{◌≡◌, ℕ, ◌<◌, ◌^◌, arith, rules, FitsSigned, w64, ℤ, ◌-ℤ◌, ◌*ℤ◌}
use mir.Syntax.{w128}
use Rattle.std.proofs.lemmas.Int.{to_z-of_z, fits_signed_mul, ints}
use Rattle.cps_p_linear.proofs.cut.slack_beyond.Goals as goal
use Rattle.cps_p_linear.proofs.cut.slack_beyond.Goals.{After-abs_diff-rest}

-- a product of two narrow numbers fits in a wide one
product_fits : (x y : ℤ) → FitsSigned w64 x → FitsSigned w64 y → FitsSigned w128 (x *ℤ y)
product_fits x y f g = fits_signed_mul w128 x y (2 ^ 63) (2 ^ 63) (omega (arith, ints, f.sfits)) (omega (arith, ints, g.sfits)) (omega arith)

rest_is : (c : After-abs_diff-rest) → c.abs_diff-rest.result ≡ unsigned_abs ((c.args.fraction.now.divisor *ℤ c.args.quotient) -ℤ c.args.fraction.now.dividend)
rest_is c =
    let d = c.args.fraction.now.divisor in
    let q = c.args.quotient in
    let a = c.args.fraction.now.dividend in
    let fd : FitsSigned w64 d = search rules in
    let fa : FitsSigned w64 a = search rules in
    let fq : FitsSigned w64 q = search rules in
    let wd : FitsSigned w128 d = search rules in
    let wa : FitsSigned w128 a = search rules in
    let wq : FitsSigned w128 q = search rules in
    rw (c.from.ensures, c.from-2.ensures, c.from-3.ensures, to_z-of_z w64 d fd, to_z-of_z w64 q fq, to_z-of_z w64 a fa, to_z-of_z w128 d wd, to_z-of_z w128 q wq, to_z-of_z w128 a wa, to_z-of_z w128 (d *ℤ q) (product_fits d q fd fq)) at c.abs_diff-rest.ensures

-- so the rest is below the divisor's magnitude, which fits
near_fits : (rest near : ℕ) (d : ℤ) → FitsSigned w64 d → rest ≡ near → near < unsigned_abs d → rest < 2 ^ 63
near_fits rest near d fits is l = omega (arith, ints, fits.sfits)

near_less : (rest near size whole : ℕ) → rest ≡ near → size ≡ whole → near < whole → rest < size
near_less rest near size whole is same l = omega arith

pub overflow_cast-rest : goal.overflow_cast-rest
overflow_cast-rest c =
    let fits : FitsSigned w64 c.args.fraction.now.divisor = search rules in
    omega (arith, near_fits _ _ _ fits (rest_is c) c.requires)

pub overflow_sub-result : goal.overflow_sub-result
overflow_sub-result c =
    let fits : FitsSigned w64 c.args.fraction.now.divisor = search rules in
    let size = simp to_z-of_z at c.unsigned_abs.ensures.value in
    omega (arith, near_less _ _ _ _ (rest_is (goal.at.overflow_sub-result c).After-abs_diff-rest) size c.requires)

pub overflow_sub-result-2 : goal.overflow_sub-result-2
overflow_sub-result-2 c =
    let fits : FitsSigned w64 c.args.fraction.now.divisor = search rules in
    let size = simp to_z-of_z at c.unsigned_abs.ensures.value in
    omega (arith, near_less _ _ _ _ (rest_is (goal.at.overflow_sub-result-2 c).After-abs_diff-rest) size c.requires)

pub returns : goal.returns
returns c =
    let fits : FitsSigned w64 c.args.fraction.now.divisor = search rules in
    let size = simp to_z-of_z at c.unsigned_abs.ensures.value in
    let rest = rest_is (goal.at.returns c).After-abs_diff-rest in
    let near = c.requires in
    omega arith
