use Rattle.std.proofs.Common.{true≢false, refl, sym, arith, pos, get_or, rules, FitsSigned, w64}
use Rattle.std.proofs.lemmas.Int.{to_z-of_z}
use Rattle.cps_p_cumulative.specs.declared.part.Part.{Part}
use Rattle.cps_p_cumulative.proofs.DemandSums.{at_below, room_all, height_more, over_some}
use Rattle.cps_p_cumulative.proofs.judge.is_over.Goals as goal

abbrev no_part : Part
no_part = record { from = pos 0; to = pos 0; demand = 0 }

pub overflow_add-sum : goal.overflow_add-sum
overflow_add-sum c =
    let ps = c.args.parts.now in
    let k = c.loop-part.part-index in
    let f : FitsSigned w64 c.args.time = search rules in
    let a = at_below c.args.time (get_or ps k no_part) c.demand_at-sum.result (rw (to_z-of_z w64 c.args.time f) at c.demand_at-sum.ensures) in
    let d = c.requires.parts.small k no_part c.loop-part-test.true in
    let e = c.loop-part.invariant.below in
    let g = c.requires.capacity in
    omega arith

pub returns-clause-room : goal.returns-clause-room
returns-clause-room c = λ no'.
    let f : FitsSigned w64 c.args.time = search rules in
    let sum = rw (to_z-of_z w64 c.args.time f) at c.loop-part.invariant.sum in
    room_all c.args.time c.args.parts.now c.loop-part.part-index c.loop-part.sum c.args.capacity c.loop-part-test.false sum c.loop-part.invariant.below

pub loop-part-init : goal.loop-part-init
loop-part-init c = record { sum = refl; below = omega arith }

pub loop-part-preserved : goal.loop-part-preserved
loop-part-preserved c = record {
  sum = height_more _ c.args.parts.now c.loop-part.part-index c.loop-part.sum c.demand_at-sum.result no_part c.loop-part-test.true c.loop-part.invariant.sum c.demand_at-sum.ensures;
  below = c.if-capacity-sum.false;
}

pub returns-then-capacity-sum-clause-over : goal.returns-then-capacity-sum-clause-over
returns-then-capacity-sum-clause-over c = λ yes.
    let f : FitsSigned w64 c.args.time = search rules in
    let sum = rw (to_z-of_z w64 c.args.time f) at c.loop-part.invariant.sum in
    let here = rw (to_z-of_z w64 c.args.time f) at c.demand_at-sum.ensures in
    over_some c.args.time c.args.parts.now c.loop-part.part-index c.loop-part.sum c.demand_at-sum.result c.args.capacity no_part c.loop-part-test.true sum here c.if-capacity-sum.true

pub returns-then-capacity-sum-clause-room : goal.returns-then-capacity-sum-clause-room
returns-then-capacity-sum-clause-room c = λ no'. absurd (true≢false no')

pub returns-clause-over : goal.returns-clause-over
returns-clause-over c = λ yes. absurd (true≢false (sym yes))
