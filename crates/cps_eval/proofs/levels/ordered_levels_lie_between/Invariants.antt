-- The sum so far, how far it is from 0, and that the levels so far lie between the two.
use Rattle.std.proofs.Common.{◌≡◌, ◌≤◌, ◌*◌, ◌^◌, take, unsigned_abs}
use Rattle.cps_eval.proofs.LevelsInOrder.{total, LieBetween}
use Rattle.cps_eval.proofs.levels.ordered_levels_lie_between.Given as goal

abbrev pub invariant-loop-k : goal.invariant-loop-k
invariant-loop-k l = record {
  sum : l.level ≡ total (take l.k l.events);
  near : unsigned_abs l.level ≤ l.k * 2 ^ 62;
  kept : LieBetween l.events l.least l.greatest l.k;
}
