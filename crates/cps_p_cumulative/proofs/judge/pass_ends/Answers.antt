use Rattle.std.proofs.Common.{◌≤ℤ◌, ◌<ℤ◌, pos, get_or, length, subst, rules, FitsSigned, w64}
use Rattle.std.proofs.lemmas.Int.{to_z-of_z}
use mir.Syntax.{w128}
use Rattle.cps_domain.proofs.Tests.{true_le, false_le}
use Rattle.cps_p_cumulative.specs.declared.part.Part.{Part}
use Rattle.cps_p_cumulative.proofs.DemandSums.{ended_more, passes_more, passes_none, fewer_left, stops_late, stops_over, stops_last}
use Rattle.cps_p_cumulative.proofs.judge.pass_ends.Goals as goal

abbrev no_part : Part
no_part = record { from = pos 0; to = pos 0; demand = 0 }

pub loop-place-init : goal.loop-place-init
loop-place-init c = record {
  ended = (let f : FitsSigned w64 c.args.time = search rules in rw (to_z-of_z w64 c.args.time f) c.requires.before);
  passes = passes_none c.args.ends.now c.args.ended;
}

pub loop-place-preserved : goal.loop-place-preserved
loop-place-preserved c =
    let ends = c.args.ends.now in
    let place = c.loop-place.place in
    let level = c.loop-place.level in
    let p = get_or ends place no_part in
    let f : FitsSigned w64 c.args.time = search rules in
    let g : FitsSigned w128 p.to = search rules in
    let h : FitsSigned w128 c.from.result = search rules in
    let time = rw (to_z-of_z w64 c.args.time f) at c.from.ensures in
    let past = true_le p.to c.from.result (simp to_z-of_z at c.if-ends-place.true) in
    let here = subst (λ z. p.to ≤ℤ z) time past in
    let before = rw (to_z-of_z w64 c.args.time f) at c.loop-place.invariant.ended in
    record {
      ended = rw (to_z-of_z w64 c.args.time f) (ended_more ends c.args.time place level _ no_part c.loop-place-test.true here before);
      passes = passes_more ends c.args.ended place level no_part c.loop-place-test.true c.if-ends-place-2.true c.loop-place.invariant.passes;
    }

pub loop-place-smaller : goal.loop-place-smaller
loop-place-smaller c = fewer_left (length c.args.ends.now) c.loop-place.place c.loop-place-test.true

pub overflow_sub-level : goal.overflow_sub-level
overflow_sub-level c = c.if-ends-place-2.true

pub bounds-ends-place : goal.bounds-ends-place
bounds-ends-place c = c.loop-place-test.true

pub bounds-ends-place-then-ends-place : goal.bounds-ends-place-then-ends-place
bounds-ends-place-then-ends-place c = c.loop-place-test.true

pub bounds-ends-place-in-loop-place : goal.bounds-ends-place-in-loop-place
bounds-ends-place-in-loop-place c = c.loop-place-test.true

pub returns-else-ends-place-2-clause-ended : goal.returns-else-ends-place-2-clause-ended
returns-else-ends-place-2-clause-ended c = (let f : FitsSigned w64 c.args.time = search rules in rw (to_z-of_z w64 c.args.time f) at c.loop-place.invariant.ended)

pub returns-else-ends-place-2-clause-passes : goal.returns-else-ends-place-2-clause-passes
returns-else-ends-place-2-clause-passes c = c.loop-place.invariant.passes

pub returns-else-ends-place-clause-ended : goal.returns-else-ends-place-clause-ended
returns-else-ends-place-clause-ended c = (let f : FitsSigned w64 c.args.time = search rules in rw (to_z-of_z w64 c.args.time f) at c.loop-place.invariant.ended)

pub returns-else-ends-place-clause-passes : goal.returns-else-ends-place-clause-passes
returns-else-ends-place-clause-passes c = c.loop-place.invariant.passes

pub returns-after-loop-place-clause-ended : goal.returns-after-loop-place-clause-ended
returns-after-loop-place-clause-ended c = (let f : FitsSigned w64 c.args.time = search rules in rw (to_z-of_z w64 c.args.time f) at c.loop-place.invariant.ended)

pub returns-after-loop-place-clause-passes : goal.returns-after-loop-place-clause-passes
returns-after-loop-place-clause-passes c = c.loop-place.invariant.passes

pub returns-else-ends-place-2-clause-stops : goal.returns-else-ends-place-2-clause-stops
returns-else-ends-place-2-clause-stops c = stops_over c.args.ends.now _ c.args.time no_part c.loop-place-test.true c.if-ends-place-2.false

pub returns-else-ends-place-clause-stops : goal.returns-else-ends-place-clause-stops
returns-else-ends-place-clause-stops c =
    let p = get_or c.args.ends.now c.loop-place.place no_part in
    let f : FitsSigned w64 c.args.time = search rules in
    let g : FitsSigned w128 p.to = search rules in
    let h : FitsSigned w128 c.from.result = search rules in
    let time = rw (to_z-of_z w64 c.args.time f) at c.from.ensures in
    let past = false_le p.to c.from.result (simp to_z-of_z at c.if-ends-place.false) in
    stops_late c.args.ends.now _ c.args.time no_part c.loop-place-test.true (subst (λ z. z <ℤ p.to) time past)

pub returns-after-loop-place-clause-stops : goal.returns-after-loop-place-clause-stops
returns-after-loop-place-clause-stops c = stops_last c.args.ends.now _ c.args.time c.loop-place-test.false
