use Rattle.std.proofs.Common.{◌≤◌}
use Rattle.smallvec.specs.SmallVec.{small_vec_len}
use Rattle.cps_literal.proofs.Normalizing.{IncludedSoFar}
use Rattle.cps_literal.proofs.normal.clear_for.Given as goal

abbrev pub invariant-loop-place : goal.invariant-loop-place
invariant-loop-place l = record {
  so_far : IncludedSoFar l.fn.kept.items l.atom l.kept.items l.place;
  len : small_vec_len l.kept ≤ small_vec_len l.fn.kept;
  capacity : l.fn.kept.capacity ≤ l.kept.capacity;
}

abbrev pub decreases-loop-place : goal.decreases-loop-place
decreases-loop-place l = l.place
