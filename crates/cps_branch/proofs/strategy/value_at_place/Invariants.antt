-- The value stands at the place that is left of the intervals that are left.
use Rattle.std.proofs.Common.{◌≡◌, ◌<◌, drop, get_or, pos}
use Rattle.cps_domain.specs.Window.{size_of}
use Rattle.cps_branch.specs.Strategies.{values_of}
use Rattle.cps_branch.proofs.strategy.value_at_place.Given as goal

abbrev pub invariant-loop-interval : goal.invariant-loop-interval
invariant-loop-interval l = record {
  at : get_or (values_of (drop l.interval-index l.intervals)) l.left (pos 0) ≡ get_or (values_of l.intervals) l.place (pos 0);
  fewer : l.left < size_of (drop l.interval-index l.intervals);
}
