use Rattle.cps_model.specs.declared.bound.Bound.{Bound}
use Rattle.cps_search.specs.Logging.{GrowsLog, IsSearchedBelow}
use Rattle.cps_search.proofs.log.SearchLog.settle_bottom.Given as goal

abbrev pub invariant-loop-entry : goal.invariant-loop-entry
invariant-loop-entry g l = record {
  grows : (z : Bound) → IsSearchedBelow l.fn.source.instance.now z l.fn.source.givers.engine.now.tasks l.fn.source.store.now → GrowsLog l.fn.source.instance.now z l.fn.self l.self;
}
