use Rattle.std.proofs.Common.{arith, rules, FitsSigned}
use Rattle.std.proofs.lemmas.Int.{ints, to_z-of_z}
use mir.Syntax.{w128}
use Rattle.cps_p_span.proofs.Timing.{says_end_from, IfSome-map}
use Rattle.cps_p_span.proofs.edges.end_from.Goals as goal

pub returns-in_ok-checked_sub-in-Some : goal.returns-in_ok-checked_sub-in-Some
returns-in_ok-checked_sub-in-Some c =
    let p = c.args.span.now in
    let sooner = c.in_ok-checked_sub-in-Some.field-0 in
    let f : FitsSigned w128 c.in_ok-checked_sub-in-Some.field-0 = search rules in
    let k = c.in_ok-checked_sub-in-Some.ensures in
    IfSome-map c.start_from.result (λ u h. says_end_from p u c.in-Some.far c.args.time c.in_ok-checked_sub-in-Some.field-0 c.in-Some.is (omega (arith, ints)) h) (rw (to_z-of_z w128 c.in_ok-checked_sub-in-Some.field-0 f) at c.start_from.ensures.says)
