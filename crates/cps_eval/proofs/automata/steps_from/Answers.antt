-- The transitions between the two places.
use Rattle.std.proofs.Common.{FitsSigned, w64}
use Rattle.std.proofs.lemmas.Int.{to_z-of_z}
use Rattle.cps_eval.proofs.Stepping.{first_to_end, leads_in_part}
use Rattle.cps_eval.proofs.automata.steps_from.Goals as goal

pub between-requires-clause-order : goal.between-requires-clause-order
between-requires-clause-order c =
    let fs : FitsSigned w64 c.args.state = c.ranges.state in
    let fl : FitsSigned w64 c.args.label = c.ranges.label in
    let begin = simp to_z-of_z at c.first_of-first.ensures.begin in
    let stop = simp to_z-of_z at c.end_of-end.ensures.end in
    first_to_end c.args.steps.now c.args.state c.args.label c.first_of-first.result c.end_of-end.result begin stop c.first_of-first.ensures.inside

pub returns : goal.returns
returns c =
    let fs : FitsSigned w64 c.args.state = c.ranges.state in
    let fl : FitsSigned w64 c.args.label = c.ranges.label in
    let begin = simp to_z-of_z at c.first_of-first.ensures.begin in
    let stop = simp to_z-of_z at c.end_of-end.ensures.end in
    let order = first_to_end c.args.steps.now c.args.state c.args.label c.first_of-first.result c.end_of-end.result begin stop c.first_of-first.ensures.inside in
    rw c.between.ensures (leads_in_part c.args.steps.now c.args.state c.args.label c.first_of-first.result c.end_of-end.result begin stop order c.end_of-end.ensures.inside)
