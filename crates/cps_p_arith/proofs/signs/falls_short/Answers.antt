use Rattle.std.proofs.Common.{rules, FitsSigned, ◌*ℤ◌, arith}
use Rattle.std.proofs.lemmas.Int.{ints, to_z-of_z}
use mir.Syntax.{w128}
use Rattle.cps_p_arith.proofs.Pairs.{product_fits}
use Rattle.cps_p_arith.proofs.Opposites.{product_below}
use Rattle.cps_p_arith.proofs.signs.falls_short.Goals as goal

pub returns : goal.returns
returns c =
    let a = c.args.one.high in
    let b = c.args.other.high in
    let t = c.args.target.low in
    let fa : FitsSigned w128 a = search rules in
    let fb : FitsSigned w128 b = search rules in
    let ft : FitsSigned w128 t = search rules in
    let fm : FitsSigned w128 (a *ℤ b) = product_fits a b (let s = c.requires.one.high in omega arith) c.requires.other.high in
    simp to_z-of_z (λ h x y px xa yb. product_below x y a b t px xa yb c.requires.from (grind (arith, ints, h)))
