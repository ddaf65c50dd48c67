use Rattle.cps_model.specs.declared.bound.Bound.{Bound}
use Rattle.cps_search.specs.Logging.{AreFetchedBy, GrowsLog, IsSearchedBelow}
use Rattle.cps_search.proofs.log.SearchLog.write_antecedents.Given as goal

abbrev pub invariant-loop-antecedent : goal.invariant-loop-antecedent
invariant-loop-antecedent g l = record {
  grows : (z : Bound) → IsSearchedBelow l.fn.source.instance.now z l.fn.source.givers.engine.now.tasks l.fn.source.store.now
      → AreFetchedBy l.fn.source.givers.engine.now.tasks l.fn.source.givers.clauses.now.clauses l.fn.source.store.now l.fn.antecedents → GrowsLog l.fn.source.instance.now z l.fn.self l.self;
}
