-- The activities and marks after some of the atoms.
use Rattle.std.specs.Prelude.{◌↔◌, IsTrue}
use Rattle.std.proofs.Common.{◌≡◌, length, take}
use Rattle.cps_branch.specs.Activities.{AreGained, ReachesLimit}
use Rattle.cps_branch.proofs.BumpedActivities.{AreMarked}
use Rattle.cps_branch.proofs.bump.bump.Given as goal

abbrev pub invariant-loop-atom : goal.invariant-loop-atom
invariant-loop-atom l = record {
  marks_length : length l.marks ≡ length l.activities;
  gains : AreGained (take l.atom-index l.clause) l.initial.activities l.activities;
  marked : AreMarked (take l.atom-index l.clause) (length l.initial.activities) l.marks;
  reached : IsTrue l.reached ↔ ReachesLimit l.activities;
}
