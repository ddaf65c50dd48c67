use Rattle.std.proofs.Common.{◌≤◌}
use Rattle.smallvec.specs.SmallVec.{small_vec_len}
use Rattle.cps_literal.proofs.Normalizing.{NormalSoFar}
use Rattle.cps_literal.proofs.normal.normal_of_sorted.Given as goal

abbrev pub invariant-loop-atom : goal.invariant-loop-atom
invariant-loop-atom l = record {
  so_far : NormalSoFar l.atoms l.kept.items l.atom-index;
  len : small_vec_len l.kept ≤ l.atom-index;
  capacity : 8 ≤ l.kept.capacity;
}
