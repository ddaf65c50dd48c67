-- What undoing leads to stays the same.
use Rattle.std.proofs.Common.{◌≡◌, length}
use Rattle.cps_rup.specs.Trails.{CanUndoAll, all_undone}
use Rattle.cps_rup.proofs.trailed.undo_all.Given as goal

abbrev pub invariant-loop-change : goal.invariant-loop-change
invariant-loop-change l = record {
  can_undo : CanUndoAll l.trail.items l.domains;
  same : all_undone l.trail.items l.domains ≡ all_undone l.fn.trail.items l.fn.domains;
}

abbrev pub decreases-loop-change : goal.decreases-loop-change
decreases-loop-change l = length l.trail.items
