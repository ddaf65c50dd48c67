use Rattle.std.proofs.Common.{rules, FitsSigned, ◌*ℤ◌, ◌-ℤ◌, arith}
use Rattle.std.proofs.lemmas.Int.{ints, to_z-of_z}
use mir.Syntax.{w128}
use Rattle.cps_p_arith.proofs.Pairs.{product_fits}
use Rattle.cps_p_arith.proofs.Rests.{leaves_more, gap_fits}
use Rattle.cps_p_arith.proofs.remainder.leaves_more.Goals as goal

pub returns-clause-sound : goal.returns-clause-sound
returns-clause-sound c =
    let k = c.args.quotient.low in
    let l = c.args.number.low in
    let h = c.args.rest.high in
    let d = c.args.divisor.high in
    let fk : FitsSigned w128 k = search rules in
    let fl : FitsSigned w128 l = search rules in
    let fh : FitsSigned w128 h = search rules in
    let fd : FitsSigned w128 d = search rules in
    let fg : FitsSigned w128 (l -ℤ h) = gap_fits l h c.requires.number.low c.requires.rest.high in
    let fm : FitsSigned w128 (k *ℤ d) = product_fits k d (let s = c.requires.quotient.low in omega arith) c.requires.divisor.high in
    simp to_z-of_z (λ t n e r ln dm v rh. leaves_more k d h l n e r c.requires.from dm (grind (arith, ints, t)) ln rh v)

pub returns-clause-exact : goal.returns-clause-exact
returns-clause-exact c =
    let k = c.args.quotient.low in
    let l = c.args.number.low in
    let h = c.args.rest.high in
    let d = c.args.divisor.high in
    let fk : FitsSigned w128 k = search rules in
    let fl : FitsSigned w128 l = search rules in
    let fh : FitsSigned w128 h = search rules in
    let fd : FitsSigned w128 d = search rules in
    let fg : FitsSigned w128 (l -ℤ h) = gap_fits l h c.requires.number.low c.requires.rest.high in
    let fm : FitsSigned w128 (k *ℤ d) = product_fits k d (let s = c.requires.quotient.low in omega arith) c.requires.divisor.high in
    simp to_z-of_z (λ f. (grind (arith, ints, f)))

pub overflow_mul-result : goal.overflow_mul-result
overflow_mul-result c =
    let k = c.args.quotient.low in
    let d = c.args.divisor.high in
    let fk : FitsSigned w128 k = search rules in
    let fd : FitsSigned w128 d = search rules in
    simp to_z-of_z (product_fits k d (let s = c.requires.quotient.low in omega arith) c.requires.divisor.high)

pub overflow_sub-result : goal.overflow_sub-result
overflow_sub-result c =
    let a = c.args.number.low in
    let b = c.args.rest.high in
    let fa : FitsSigned w128 a = search rules in
    let fb : FitsSigned w128 b = search rules in
    simp to_z-of_z (gap_fits a b c.requires.number.low c.requires.rest.high)
