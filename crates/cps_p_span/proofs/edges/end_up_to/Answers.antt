use Rattle.std.proofs.Common.{arith, rules, FitsSigned}
use Rattle.std.proofs.lemmas.Int.{ints, to_z-of_z}
use mir.Syntax.{w128}
use Rattle.cps_p_span.proofs.Timing.{says_end_up_to, keeps_end_by_start, IfSome-map}
use Rattle.cps_p_span.proofs.edges.end_up_to.Goals as goal

pub returns-in_ok-checked_sub-in-Some-clause-says : goal.returns-in_ok-checked_sub-in-Some-clause-says
returns-in_ok-checked_sub-in-Some-clause-says c =
    let p = c.args.span.now in
    let sooner = c.in_ok-checked_sub-in-Some.field-0 in
    let f : FitsSigned w128 c.in_ok-checked_sub-in-Some.field-0 = search rules in
    let k = c.in_ok-checked_sub-in-Some.ensures in
    IfSome-map c.start_up_to.result (λ u h. says_end_up_to p u c.in-Some.far c.args.time c.in_ok-checked_sub-in-Some.field-0 c.in-Some.is (omega (arith, ints)) h) (rw (to_z-of_z w128 c.in_ok-checked_sub-in-Some.field-0 f) at c.start_up_to.ensures.says)

pub returns-in_ok-checked_sub-in-Some-clause-now : goal.returns-in_ok-checked_sub-in-Some-clause-now
returns-in_ok-checked_sub-in-Some-clause-now c =
    let f : FitsSigned w128 c.in_ok-checked_sub-in-Some.field-0 = search rules in
    let k = c.in_ok-checked_sub-in-Some.ensures in
    IfSome-map c.start_up_to.result (λ u h. keeps_end_by_start c.args.span.now u c.in-Some.far c.args.time c.in_ok-checked_sub-in-Some.field-0 c.in-Some.is (omega (arith, ints)) h) (rw (to_z-of_z w128 c.in_ok-checked_sub-in-Some.field-0 f) at c.start_up_to.ensures.now)
