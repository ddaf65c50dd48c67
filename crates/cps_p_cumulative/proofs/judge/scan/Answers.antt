use Rattle.std.proofs.Common.{arith, pos, rules, FitsSigned, w64, get_or}
use Rattle.std.proofs.lemmas.Int.{to_z-of_z}
use Rattle.cps_p_cumulative.specs.declared.part.Part.{Part}
use Rattle.cps_p_cumulative.proofs.DemandSums.{tried_more, FitsCapacity-tried}
use Rattle.cps_p_cumulative.proofs.judge.scan.Goals as goal

abbrev no_part : Part
no_part = record { from = pos 0; to = pos 0; demand = 0 }

pub loop-part-preserved : goal.loop-part-preserved
loop-part-preserved c =
    let ps = c.args.parts.now in
    let k = c.loop-part.part-index in
    let from = (get_or ps k no_part).from in
    let f : FitsSigned w64 from = search rules in
    let e = rw (to_z-of_z w64 from f) at (c.is_over.ensures.room c.if-is_over.false) in
    tried_more ps c.args.capacity k no_part c.loop-part-test.true e c.loop-part.invariant

pub returns : goal.returns
returns c = let past = c.loop-part-test.false in FitsCapacity-tried c.args.parts.now c.args.capacity no_part (λ k l. c.loop-part.invariant k no_part (omega arith))
