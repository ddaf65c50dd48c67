use Rattle.cps_search.proofs.LogSteps.{grows_from}
use Rattle.cps_search.proofs.log.SearchLog.settle_bottom.Goals as goal

pub loop-entry-preserved : goal.loop-entry-preserved
loop-entry-preserved g c = record {
  grows = λ z h. grows_from c.args.source.now.instance.now z c.args.self.now c.loop-entry.self c.settle.new.self (c.loop-entry.invariant.grows z h) (c.in_ok-settle.ensures z h);
}
