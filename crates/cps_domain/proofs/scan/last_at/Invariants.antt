use Rattle.std.proofs.Common.{◌<◌, ◌≤◌, ◌-◌, ◌<ℤ◌, ◌≤ℤ◌}
use Rattle.cps_domain.specs.Window.{interval_at}
use Rattle.cps_domain.proofs.scan.last_at.Given as goal

abbrev pub invariant-loop-last : goal.invariant-loop-last
invariant-loop-last l = record {
  low : l.from ≤ l.last;
  some : l.last < l.end;
  high : l.end ≤ l.to;
  reached : (interval_at l.list l.last).0 ≤ℤ l.value;
  beyond : l.end < l.to → l.value <ℤ (interval_at l.list l.end).0;
}

abbrev pub decreases-loop-last : goal.decreases-loop-last
decreases-loop-last l = l.end - l.last
