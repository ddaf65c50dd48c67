-- An end is that of the place, or of those before.
use Rattle.std.proofs.Common.{arith, rules, FitsSigned, w64}
use Rattle.std.proofs.lemmas.Int.{to_z-of_z}
use Rattle.cps_p_lookup.proofs.Opening.{end_min, end_max}
use Rattle.cps_p_lookup.proofs.places.widened.Goals as goal

pub returns-clause-least : goal.returns-clause-least
returns-clause-least c =
    let ne = c.if-scan-eq0.false in
    let v = c.min.result in
    let f : FitsSigned w64 c.args.scan.least = search rules in
    let g : FitsSigned w64 v = search rules in
    rw (to_z-of_z w64 v g) (end_min c.args.scan.open c.args.low c.args.scan.least v (rw (to_z-of_z w64 c.args.scan.least f, to_z-of_z w64 c.args.low c.ranges.low) at c.min.ensures.value) (omega (arith, ne)))

pub returns-clause-greatest : goal.returns-clause-greatest
returns-clause-greatest c =
    let ne = c.if-scan-eq0.false in
    let v = c.max.result in
    let f : FitsSigned w64 c.args.scan.greatest = search rules in
    let g : FitsSigned w64 v = search rules in
    rw (to_z-of_z w64 v g) (end_max c.args.scan.open c.args.high c.args.scan.greatest v (rw (to_z-of_z w64 c.args.scan.greatest f, to_z-of_z w64 c.args.high c.ranges.high) at c.max.ensures.value) (omega (arith, ne)))
