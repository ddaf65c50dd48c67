use Rattle.std.proofs.Common.{◌<◌, ◌≤◌, ◌-◌, ◌<ℤ◌, ◌≤ℤ◌}
use Rattle.cps_domain.specs.Window.{interval_at}
use Rattle.cps_domain.proofs.scan.first_at.Given as goal

abbrev pub invariant-loop-start : goal.invariant-loop-start
invariant-loop-start l = record {
  low : l.from ≤ l.start;
  some : l.start ≤ l.first;
  high : l.first < l.to;
  reached : l.value ≤ℤ (interval_at l.list l.first).1;
  before : l.from < l.start → (interval_at l.list (l.start - 1)).1 <ℤ l.value;
}

abbrev pub decreases-loop-start : goal.decreases-loop-start
decreases-loop-start l = l.first - l.start
