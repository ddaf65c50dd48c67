use Rattle.std.proofs.Common.{rules, FitsSigned, w64, ◌*ℤ◌, inl, inr, refl, arith}
use Rattle.std.proofs.lemmas.Int.{ints, to_z-of_z}
use mir.Syntax.{w128}
use Rattle.cps_p_arith.proofs.Scaling.{fits_wider, scaled_fits, scaled_up, scaled_down, scaled_both, scaled_back}
use Rattle.cps_p_arith.proofs.product.scaled.Goals as goal

pub returns-then-number-lt0-clause-sound : goal.returns-then-number-lt0-clause-sound
returns-then-number-lt0-clause-sound c =
    let n = c.args.number in
    let l = c.args.range.low in
    let h = c.args.range.high in
    let fn : FitsSigned w64 n = c.ranges.number in
    let fw : FitsSigned w128 n = fits_wider n fn in
    let fl : FitsSigned w128 l = search rules in
    let fh : FitsSigned w128 h = search rules in
    let fm : FitsSigned w128 (n *ℤ l) = scaled_fits n l fn c.requires.low in
    let fk : FitsSigned w128 (n *ℤ h) = scaled_fits n h fn c.requires.high in
    let negative = c.if-number-lt0.true in
    simp to_z-of_z (λ y b. scaled_down n l h y (omega (arith, ints)) b)

pub returns-then-number-lt0-clause-exact : goal.returns-then-number-lt0-clause-exact
returns-then-number-lt0-clause-exact c =
    let n = c.args.number in
    let l = c.args.range.low in
    let h = c.args.range.high in
    let fn : FitsSigned w64 n = c.ranges.number in
    let fw : FitsSigned w128 n = fits_wider n fn in
    let fl : FitsSigned w128 l = search rules in
    let fh : FitsSigned w128 h = search rules in
    let fm : FitsSigned w128 (n *ℤ l) = scaled_fits n l fn c.requires.low in
    let fk : FitsSigned w128 (n *ℤ h) = scaled_fits n h fn c.requires.high in
    simp to_z-of_z (λ y b. scaled_back n l h y b)

pub returns-else-number-lt0-clause-sound : goal.returns-else-number-lt0-clause-sound
returns-else-number-lt0-clause-sound c =
    let n = c.args.number in
    let l = c.args.range.low in
    let h = c.args.range.high in
    let fn : FitsSigned w64 n = c.ranges.number in
    let fw : FitsSigned w128 n = fits_wider n fn in
    let fl : FitsSigned w128 l = search rules in
    let fh : FitsSigned w128 h = search rules in
    let fm : FitsSigned w128 (n *ℤ l) = scaled_fits n l fn c.requires.low in
    let fk : FitsSigned w128 (n *ℤ h) = scaled_fits n h fn c.requires.high in
    let positive = c.if-number-lt0.false in
    simp to_z-of_z (λ y b. scaled_up n l h y (omega (arith, ints)) b)

pub returns-else-number-lt0-clause-exact : goal.returns-else-number-lt0-clause-exact
returns-else-number-lt0-clause-exact c =
    let n = c.args.number in
    let l = c.args.range.low in
    let h = c.args.range.high in
    let fn : FitsSigned w64 n = c.ranges.number in
    let fw : FitsSigned w128 n = fits_wider n fn in
    let fl : FitsSigned w128 l = search rules in
    let fh : FitsSigned w128 h = search rules in
    let fm : FitsSigned w128 (n *ℤ l) = scaled_fits n l fn c.requires.low in
    let fk : FitsSigned w128 (n *ℤ h) = scaled_fits n h fn c.requires.high in
    simp to_z-of_z (λ y b. scaled_both n l h y b)

pub overflow_cast-factor : goal.overflow_cast-factor
overflow_cast-factor c = let fn : FitsSigned w64 c.args.number = c.ranges.number in simp to_z-of_z (fits_wider c.args.number fn)

pub overflow_mul-one : goal.overflow_mul-one
overflow_mul-one c =
    let n = c.args.number in
    let l = c.args.range.low in
    let fn : FitsSigned w64 n = c.ranges.number in
    let fw : FitsSigned w128 n = fits_wider n fn in
    let fl : FitsSigned w128 l = search rules in
    simp to_z-of_z (scaled_fits n l fn c.requires.low)

pub overflow_mul-other : goal.overflow_mul-other
overflow_mul-other c =
    let n = c.args.number in
    let h = c.args.range.high in
    let fn : FitsSigned w64 n = c.ranges.number in
    let fw : FitsSigned w128 n = fits_wider n fn in
    let fh : FitsSigned w128 h = search rules in
    simp to_z-of_z (scaled_fits n h fn c.requires.high)

pub returns-then-number-lt0-clause-low : goal.returns-then-number-lt0-clause-low
returns-then-number-lt0-clause-low c =
    let n = c.args.number in
    let l = c.args.range.low in
    let h = c.args.range.high in
    let fn : FitsSigned w64 n = c.ranges.number in
    let fw : FitsSigned w128 n = fits_wider n fn in
    let fl : FitsSigned w128 l = search rules in
    let fh : FitsSigned w128 h = search rules in
    let fm : FitsSigned w128 (n *ℤ l) = scaled_fits n l fn c.requires.low in
    let fk : FitsSigned w128 (n *ℤ h) = scaled_fits n h fn c.requires.high in
    simp to_z-of_z (inr refl)

pub returns-then-number-lt0-clause-high : goal.returns-then-number-lt0-clause-high
returns-then-number-lt0-clause-high c =
    let n = c.args.number in
    let l = c.args.range.low in
    let h = c.args.range.high in
    let fn : FitsSigned w64 n = c.ranges.number in
    let fw : FitsSigned w128 n = fits_wider n fn in
    let fl : FitsSigned w128 l = search rules in
    let fh : FitsSigned w128 h = search rules in
    let fm : FitsSigned w128 (n *ℤ l) = scaled_fits n l fn c.requires.low in
    let fk : FitsSigned w128 (n *ℤ h) = scaled_fits n h fn c.requires.high in
    simp to_z-of_z (inl refl)

pub returns-else-number-lt0-clause-low : goal.returns-else-number-lt0-clause-low
returns-else-number-lt0-clause-low c =
    let n = c.args.number in
    let l = c.args.range.low in
    let h = c.args.range.high in
    let fn : FitsSigned w64 n = c.ranges.number in
    let fw : FitsSigned w128 n = fits_wider n fn in
    let fl : FitsSigned w128 l = search rules in
    let fh : FitsSigned w128 h = search rules in
    let fm : FitsSigned w128 (n *ℤ l) = scaled_fits n l fn c.requires.low in
    let fk : FitsSigned w128 (n *ℤ h) = scaled_fits n h fn c.requires.high in
    simp to_z-of_z (inl refl)

pub returns-else-number-lt0-clause-high : goal.returns-else-number-lt0-clause-high
returns-else-number-lt0-clause-high c =
    let n = c.args.number in
    let l = c.args.range.low in
    let h = c.args.range.high in
    let fn : FitsSigned w64 n = c.ranges.number in
    let fw : FitsSigned w128 n = fits_wider n fn in
    let fl : FitsSigned w128 l = search rules in
    let fh : FitsSigned w128 h = search rules in
    let fm : FitsSigned w128 (n *ℤ l) = scaled_fits n l fn c.requires.low in
    let fk : FitsSigned w128 (n *ℤ h) = scaled_fits n h fn c.requires.high in
    simp to_z-of_z (inr refl)
