use Rattle.std.proofs.Common.{◌≤ℤ◌, Bool, sym, subst, rules, FitsSigned}
use Rattle.std.specs.Prelude.{IfSome}
use Rattle.std.proofs.lemmas.Int.{to_z-of_z}
use mir.Syntax.{w64, w128}
use Rattle.cps_p_nooverlap.specs.Crowds.{near_at}
use Rattle.cps_p_span.specs.Spans.{SaysOfTimes}
use Rattle.cps_p_span.proofs.Timing.{IfSome-map}
use Rattle.cps_p_nooverlap.proofs.Turning.{near_from}
use Rattle.cps_p_nooverlap.proofs.sides.near_from.Goals as goal

pub returns-then-is_reversed : goal.returns-then-is_reversed
returns-then-is_reversed c =
    let f : FitsSigned w128 c.opposite.result = search rules in
    let g : FitsSigned w64 c.args.time = search rules in
    subst (λ (b : Bool). IfSome c.end_up_to.result (λ u. SaysOfTimes c.args.span.now u (λ xs. c.args.time ≤ℤ near_at b xs c.args.span.now))) (sym c.if-is_reversed.true)
    (IfSome-map c.end_up_to.result (λ u h. near_from c.args.span.now u c.args.time c.opposite.result (rw (to_z-of_z w64 c.args.time g) at c.opposite.ensures) h) (rw (to_z-of_z w128 c.opposite.result f) at c.end_up_to.ensures.says))
