-- What began and what ended up to a part keep to the capacity.
use Rattle.std.proofs.Common.{◌≤◌, ◌+◌, ◌<◌, arith, pos, rules, FitsSigned, w64, get_or, take, length}
use Rattle.std.specs.List.{sum_by}
use Rattle.std.proofs.lemmas.Int.{to_z-of_z}
use Rattle.cps_p_cumulative.specs.declared.part.Part.{Part}
use Rattle.cps_p_cumulative.proofs.Levelled.{no_some}
use Rattle.cps_p_cumulative.proofs.SpanDemands.{false_lt}
use Rattle.cps_p_cumulative.proofs.DemandSums.{ended_later, swept_more, carries}
use Rattle.cps_p_cumulative.proofs.judge.sweep.Goals as goal

abbrev no_part : Part
no_part = record { from = pos 0; to = pos 0; demand = 0 }

pub loop-part-preserved : goal.loop-part-preserved
loop-part-preserved c =
    let starts = c.args.starts.now in
    let ends = c.args.ends.now in
    let k = c.loop-part.part-index in
    let l : k < length starts = c.loop-part-test.true in
    let from = (get_or starts k no_part).from in
    let f : FitsSigned w64 from = search rules in
    let e = rw (to_z-of_z w64 from f) at c.pass_ends-passed.ensures.ended in
    let m = c.pass_ends-passed.result.place in
    let level = carries starts ends k no_part c.loop-part.ended c.pass_ends-passed.result l c.loop-part.invariant.level c.pass_ends-passed.ensures.passes in
    let small = c.if-capacity-level.false in
    let sum : sum_by (λ (p : Part). p.demand) (take (k + 1) starts) ≤ sum_by (λ (p : Part). p.demand) (take m ends) + c.args.capacity = omega arith in
    record {
      level = level;
      below = small;
      ended = record { within = c.pass_ends-passed.ensures.ended.within; passed = c.pass_ends-passed.ensures.ended.passed };
      swept = swept_more starts ends c.args.capacity k m no_part l e.passed sum c.loop-part.invariant.swept;
    }

pub pass_ends-passed-requires : goal.pass_ends-passed-requires
pass_ends-passed-requires c = record { before = ended_later c.args.ends.now c.loop-part.ended _ _ (false_lt _ _ c.if-time-last.false) c.loop-part.invariant.ended }

pub returns-then-time-last : goal.returns-then-time-last
returns-then-time-last c = λ none. no_some _ _ none

pub returns-then-capacity-level : goal.returns-then-capacity-level
returns-then-capacity-level c = λ none. no_some _ _ none
