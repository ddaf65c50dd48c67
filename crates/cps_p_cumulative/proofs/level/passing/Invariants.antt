use Rattle.cps_p_cumulative.specs.Levels.{HasRoomTo}
use Rattle.cps_p_cumulative.proofs.level.passing.Given as goal

abbrev pub invariant-loop-k : goal.invariant-loop-k
invariant-loop-k l = HasRoomTo l.past l.tank l.k
