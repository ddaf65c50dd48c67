use Rattle.std.proofs.Common.{◌≡◌, ◌≤◌, take}
use Rattle.cps_p_cumulative.specs.Profile.{height}
use Rattle.cps_p_cumulative.proofs.judge.is_over.Given as goal

abbrev pub invariant-loop-part : goal.invariant-loop-part
invariant-loop-part l = record {
  sum : l.sum ≡ height l.time (take l.part-index l.parts);
  below : l.sum ≤ l.capacity;
}
