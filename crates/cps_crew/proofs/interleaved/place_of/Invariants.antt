-- The worker is that of a lesser rank among those that are left.
use Rattle.std.proofs.Common.{◌≡◌, ◌+◌, ◌<◌, drop}
use Rattle.cps_crew.specs.Turning.{count_at_work, place_at_work}
use Rattle.cps_crew.proofs.interleaved.place_of.Given as goal

abbrev pub invariant-loop-place : goal.invariant-loop-place
invariant-loop-place g l = record {
  some_left : l.left < count_at_work (drop l.place l.crew);
  same : l.place + place_at_work (drop l.place l.crew) l.left ≡ place_at_work l.crew l.rank;
}
