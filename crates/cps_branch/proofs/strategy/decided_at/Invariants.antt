-- The strategies so far are done, and the place is that of the first subject which is not fixed in what is left.
use Rattle.std.specs.Prelude.{All}
use Rattle.std.proofs.Common.{◌≡◌, ◌+◌, ◌<◌, length, take, drop, get_or}
use Rattle.cps_branch.specs.Fixed.{IsFixed}
use Rattle.cps_branch.specs.Strategies.{IsDone, listed}
use Rattle.cps_branch.proofs.strategy.decided_at.Given as goal

abbrev pub invariant-loop-strategy : goal.invariant-loop-strategy
invariant-loop-strategy l = record {
  done : All (IsDone l.store) (take l.strategy-index l.strategies);
  place : l.place + length (listed (drop l.strategy-index l.strategies)) ≡ length (listed l.strategies) + l.left;
  before : All (IsFixed l.store) (take l.left (listed (drop l.strategy-index l.strategies)));
  open_there : l.left < length (listed (drop l.strategy-index l.strategies)) → IsFixed l.store (get_or (listed (drop l.strategy-index l.strategies)) l.left 0) → ⊥;
}
