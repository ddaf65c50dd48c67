use Rattle.std.proofs.Common.{w64, FitsSigned, rules}
use Rattle.std.proofs.lemmas.Int.{to_z-of_z}
use Rattle.cps_reform.proofs.Loops.{bound-step, size-step}
use Rattle.cps_reform.proofs.reform.core_bound.Goals as goal

pub loop-term-preserved : goal.loop-term-preserved
loop-term-preserved c =
    let fits : FitsSigned w64 c.with_bound-sum.result = search rules in
    rw (to_z-of_z w64 c.with_bound-sum.result fits) (record {
      sum = bound-step c.args.terms.now c.loop-term.term-index _ _ _ c.with_bound-sum.result c.loop-term-test.true c.with_bound-sum.ensures c.loop-term.invariant.sum;
      size = size-step c.args.terms.now c.loop-term.term-index _ _ _ c.with_bound-sum.result c.loop-term-test.true c.with_bound-sum.ensures c.loop-term.invariant.size;
    })
