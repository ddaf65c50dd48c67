use Rattle.std.proofs.Common.{◌≡◌, ◌+◌, ◌≤◌, drop}
use Rattle.cps_crew.specs.Turning.{count_at_work}
use Rattle.cps_crew.proofs.interleaved.count_at_work.Given as goal

abbrev pub invariant-loop-turning : goal.invariant-loop-turning
invariant-loop-turning g l = record {
  counted : l.count + count_at_work (drop l.turning-index l.crew) ≡ count_at_work l.crew;
  small : l.count ≤ l.turning-index;
}
