use Rattle.std.proofs.Common.{◌∙◌, sym}
use Rattle.cps_search.proofs.LogSteps.{assumes_more}
use Rattle.cps_search.proofs.log.SearchLog.assume_all.Goals as goal

pub assume_one-requires-clause-assumptions : goal.assume_one-requires-clause-assumptions
assume_one-requires-clause-assumptions g c = c.loop-place.invariant.assumptions ∙ sym c.assumptions-assumptions.ensures

pub loop-place-preserved : goal.loop-place-preserved
loop-place-preserved g c = record {
  assumptions = c.in_ok-assume_one.ensures.kept ∙ c.assumptions-assumptions.ensures;
  assumes = λ z core some. assumes_more c.args.source.now.instance.now z core c.args.self.now c.loop-place.self c.assume_one.new.self (c.loop-place.invariant.assumes z core some)
      (c.in_ok-assume_one.ensures.assumes c.args.source.now.instance.now z core (sym c.assumptions-assumptions.ensures) some);
}
