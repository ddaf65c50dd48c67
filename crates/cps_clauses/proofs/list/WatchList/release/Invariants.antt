use Rattle.std.proofs.Common.{◌-◌, length}
use Rattle.cps_clauses.proofs.ReleasedWatchers.{IsReleasedTo}
use Rattle.cps_clauses.proofs.list.WatchList.release.Given as goal

abbrev pub invariant-loop-place : goal.invariant-loop-place
invariant-loop-place l = IsReleasedTo l.dropped l.initial.self l.self l.place

abbrev pub decreases-loop-place : goal.decreases-loop-place
decreases-loop-place l = length l.self - l.place
