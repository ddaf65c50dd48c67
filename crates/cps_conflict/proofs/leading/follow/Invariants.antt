use Rattle.std.proofs.Common.{◌≡◌, ◌≤◌, length}
use Rattle.cps_conflict.specs.Conflicts.{AreTrueReasons}
use Rattle.cps_conflict.specs.Leading.{WalksBack, IsFetched}
use Rattle.cps_conflict.proofs.leading.follow.Given as goal

abbrev pub invariant-loop-place : goal.invariant-loop-place
invariant-loop-place g l = record {
  within : l.place ≤ length l.store.entries;
  same_length : length l.marks ≡ length l.store.entries;
  followed : WalksBack (IsFetched (g.E.Explain.makes l.explain l.store) l.store) (AreTrueReasons (g.E.Explain.makes l.explain l.store) l.store) l.store (length l.store.entries) l.place l.fn.marks l.marks;
}

abbrev pub decreases-loop-place : goal.decreases-loop-place
decreases-loop-place g l = l.place
