use Rattle.std.proofs.Common.{◌≡◌, ℤ, List}
use Rattle.cps_model.specs.declared.bound.Bound.{Bound}
use Rattle.cps_model.specs.declared.bound.Bound.TheVariants.{Infinite}
use Rattle.cps_search.specs.Logging.{AssumesLog}
use Rattle.cps_search.proofs.log.SearchLog.assume_all.Given as goal

abbrev pub invariant-loop-place : goal.invariant-loop-place
invariant-loop-place g l = record {
  assumptions : l.self.traced.assumptions ≡ l.fn.source.instance.now.model.assumptions;
  assumes : (z : Bound) (core : List ℤ) → (z ≡ Infinite → l.fn.some ≡ core) → AssumesLog l.fn.source.instance.now z core l.fn.self l.self;
}
