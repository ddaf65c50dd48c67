-- The ends are those of the start, and of the end or of the start that much later.
use Rattle.std.proofs.Common.{rules, FitsSigned}
use mir.Syntax.{w64}
use Rattle.cps_p_span.proofs.Timing.{times_some, times_none}
use Rattle.cps_p_span.proofs.Widening.{same_wide, same_sum}
use Rattle.cps_p_span.proofs.seen.times_of.Goals as goal

pub returns-in-Some : goal.returns-in-Some
returns-in-Some c =
    let m = c.hull_of-start.ensures in
    let f : FitsSigned w64 c.in-Some.far = search rules in
    times_some c.args.store.now c.args.span.now c.in-Some.far c.hull_of-start.result _ c.in-Some.is m (same_wide _ m.low_inside) (same_wide _ m.high_inside) (same_sum _ c.in-Some.far m.low_inside f) (same_sum _ c.in-Some.far m.high_inside f)

pub returns-in-None : goal.returns-in-None
returns-in-None c =
    let m = c.hull_of-start.ensures in
    let n = c.hull_of-end.ensures in
    times_none c.args.store.now c.args.span.now c.hull_of-start.result c.hull_of-end.result _ c.in-None.is m n (same_wide _ m.low_inside) (same_wide _ m.high_inside) (same_wide _ n.low_inside) (same_wide _ n.high_inside)
