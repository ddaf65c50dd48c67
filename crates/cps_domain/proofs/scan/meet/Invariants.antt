use Rattle.std.proofs.Common.{◌+◌, ◌-◌, ◌≤◌, length, drop}
use Rattle.cps_domain.proofs.Meeting.{SharedSoFar}
use Rattle.cps_domain.proofs.scan.meet.Given as goal

abbrev pub invariant-loop-at : goal.invariant-loop-at
invariant-loop-at l = record {
  so_far : SharedSoFar l.one l.other l.list.items (drop l.at l.one) (drop l.place l.other);
  inside : l.at ≤ length l.one;
  beside : l.place ≤ length l.other;
}

abbrev pub decreases-loop-at : goal.decreases-loop-at
decreases-loop-at l = (length l.one - l.at) + (length l.other - l.place)
