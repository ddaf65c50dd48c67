use Rattle.std.proofs.Common.{rules, FitsSigned, w64}
use Rattle.std.specs.Int.{w128}
use Rattle.std.proofs.lemmas.Int.{to_z-of_z}
use Rattle.cps_p_cumulative.proofs.Levelled.{least-over, least-under}
use Rattle.cps_p_cumulative.proofs.level.least_toward.Goals as goal

pub returns-in-Over : goal.returns-in-Over
returns-in-Over c =
    let low = c.ends-low.result.0 in
    let v = c.toward.result in
    let f : FitsSigned w64 low = search rules in
    let g : FitsSigned w128 v = search rules in
    let is = rw (to_z-of_z w64 low f) at c.toward.ensures in
    rw (to_z-of_z w128 v g) (least-over c.args.past.now c.args.side c.args.change low v c.in-Over.is is c.ends-low.ensures.low c.ends-low.ensures.least f)

pub returns-in-Under : goal.returns-in-Under
returns-in-Under c =
    let high = c.ends-low.result.1 in
    let v = c.toward-in-Under.result in
    let f : FitsSigned w64 high = search rules in
    let g : FitsSigned w128 v = search rules in
    let is = rw (to_z-of_z w64 high f) at c.toward-in-Under.ensures in
    rw (to_z-of_z w128 v g) (least-under c.args.past.now c.args.side c.args.change high v c.in-Under.is is c.ends-low.ensures.high c.ends-low.ensures.greatest f)
