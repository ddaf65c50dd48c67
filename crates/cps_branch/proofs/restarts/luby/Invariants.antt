-- The place stands for the member.
use Rattle.std.proofs.Common.{◌≤◌, ◌^◌}
use Rattle.cps_branch.proofs.LubyNumbers.{IsPlaceOf}
use Rattle.cps_branch.proofs.restarts.luby.Given as goal

abbrev pub invariant-loop-place : goal.invariant-loop-place
invariant-loop-place l = record { place : IsPlaceOf l.member l.place l.power; few : l.power ≤ 2 ^ 32 }

abbrev pub decreases-loop-place : goal.decreases-loop-place
decreases-loop-place l = l.power
