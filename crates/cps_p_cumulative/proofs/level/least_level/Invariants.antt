use Rattle.std.proofs.Common.{take, unsigned_abs, ◌≤◌, ◌*◌, ◌^◌}
use Rattle.cps_p_cumulative.specs.Levels.{IsLevel, moves_of}
use Rattle.cps_p_cumulative.proofs.level.least_level.Given as goal

abbrev pub invariant-loop-k : goal.invariant-loop-k
invariant-loop-k l = record {
  level : IsLevel l.past l.time l.side (take l.k (moves_of l.tank)) l.sum;
  near : unsigned_abs l.sum ≤ l.k * 2 ^ 63;
}
