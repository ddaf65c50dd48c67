use Rattle.std.proofs.Common.{rules, FitsSigned, w64, refl}
use Rattle.std.specs.Prelude.{int_rem}
use Rattle.std.proofs.lemmas.Int.{to_z-of_z}
use mir.Syntax.{w128}
use Rattle.cps_p_arith.proofs.Scaling.{fits_wider}
use Rattle.cps_p_arith.proofs.Rests.{rest_fits}
use Rattle.cps_p_arith.proofs.remainder.rest_of.Goals as goal

pub returns : goal.returns
returns c =
    let n = c.args.number.low in
    let d = c.args.divisor.low in
    let fn : FitsSigned w64 n = search rules in
    let fd : FitsSigned w64 d = search rules in
    let gn : FitsSigned w128 n = fits_wider n fn in
    let gd : FitsSigned w128 d = fits_wider d fd in
    let fr : FitsSigned w128 (int_rem n d) = rest_fits n d fd c.requires in
    simp to_z-of_z (record { from = refl; to = refl })
