use Rattle.std.proofs.Common.{rules, pos, negsuc, ◌-ℤ◌, ◌≤ℤ◌, ◌<ℤ◌, FitsSigned, w64, to_z, arith}
use Rattle.std.proofs.lemmas.Int.{ints, to_z-of_z}
use mir.Syntax.{w128}
use Rattle.cps_p_arith.proofs.Scaling.{fits_wider, opposite_fits}
use Rattle.cps_p_arith.proofs.range.negative_part.Goals as goal
use Rattle.cps_p_arith.proofs.range.negative_part.Goals.{then-ends-gtminus1, else-ends-gtminus1}

pub returns-clause-same : goal.returns-clause-same
returns-clause-same c =
    let l = c.args.ends.low in
    let h = c.args.ends.high in
    let fl : FitsSigned w64 l = search rules in
    let fh : FitsSigned w64 h = search rules in
    let wl : FitsSigned w128 l = fits_wider l fl in
    let wh : FitsSigned w128 h = fits_wider h fh in
    let nl : FitsSigned w128 (pos 0 -ℤ l) = opposite_fits l fl in
    let nh : FitsSigned w128 (pos 0 -ℤ h) = opposite_fits h fh in
    let least : (pos 0 -ℤ h) ≤ℤ to_z w128 c.if-ends-gtminus1.result-bits = elim c.if-ends-gtminus1.branch [
      | then-ends-gtminus1 w ↦ (
          let test = rw (to_z-of_z w64 h fh) at w.if-ends-gtminus1.true in
          let more : negsuc 0 <ℤ h = grind (arith, ints, test) in
          let is = w.result-is in
          omega (arith, ints))
      | else-ends-gtminus1 w ↦ (let is = rw (to_z-of_z w64 h fh, to_z-of_z w128 h wh, to_z-of_z w128 (pos 0 -ℤ h) nh) at w.result-is in omega (arith, ints))
    ] in
    simp to_z-of_z (λ x b. let from = b.from in let to = b.to in record { from = omega (arith, ints); to = omega (arith, ints) })
