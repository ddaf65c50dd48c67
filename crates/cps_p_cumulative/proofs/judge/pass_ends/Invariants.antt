use Rattle.std.proofs.Common.{◌-◌, length}
use Rattle.cps_p_cumulative.specs.Profile.{IsEndedBy, PassesEnds}
use Rattle.cps_p_cumulative.proofs.judge.pass_ends.Given as goal

abbrev pub invariant-loop-place : goal.invariant-loop-place
invariant-loop-place l = record {
  ended : IsEndedBy l.ends (record { place = l.place; level = l.level }) l.time;
  passes : PassesEnds l.ends l.fn.ended (record { place = l.place; level = l.level });
}

abbrev pub decreases-loop-place : goal.decreases-loop-place
decreases-loop-place l = length l.ends - l.place
