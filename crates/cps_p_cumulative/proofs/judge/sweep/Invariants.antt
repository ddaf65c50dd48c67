use Rattle.std.proofs.Common.{◌≡◌, ◌≤◌, ◌+◌, take}
use Rattle.std.specs.List.{sum_by}
use Rattle.cps_p_cumulative.specs.Profile.{IsEndedBy, AreSweptTo}
use Rattle.cps_p_cumulative.proofs.judge.sweep.Given as goal

abbrev pub invariant-loop-part : goal.invariant-loop-part
invariant-loop-part l = record {
  level : l.ended.level + sum_by (λ p. p.demand) (take l.ended.place l.ends) ≡ sum_by (λ p. p.demand) (take l.part-index l.starts);
  below : l.ended.level ≤ l.capacity;
  ended : IsEndedBy l.ends l.ended l.last;
  swept : AreSweptTo l.starts l.ends l.capacity l.part-index;
}
