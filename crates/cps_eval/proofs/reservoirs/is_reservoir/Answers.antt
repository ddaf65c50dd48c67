-- The bounds are the same numbers in the wider type.
use Rattle.std.proofs.Common.{rules, FitsSigned, w64}
use Rattle.std.specs.Int.{w128}
use Rattle.std.proofs.lemmas.Int.{to_z-of_z}
use Rattle.cps_eval.proofs.reservoirs.is_reservoir.Goals as goal

pub returns : goal.returns
returns c =
    let fl : FitsSigned w64 c.args.least = c.ranges.least in
    let fg : FitsSigned w64 c.args.greatest = c.ranges.greatest in
    let ff : FitsSigned w128 c.from.result = search rules in
    let fh : FitsSigned w128 c.from-2.result = search rules in
    let least = simp to_z-of_z at c.from.ensures in
    let greatest = simp to_z-of_z at c.from-2.ensures in
    let wide = simp to_z-of_z at c.levels_lie_between.ensures in
    simp (least, greatest) at wide
