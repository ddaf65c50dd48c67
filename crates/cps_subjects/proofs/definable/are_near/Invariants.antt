-- The numbers so far are near.
use Rattle.std.proofs.Common.{ℕ, ℤ, ◌<◌, get_or}
use Rattle.cps_log.specs.Subjects.{IsNear}
use Rattle.cps_subjects.proofs.definable.are_near.Given as goal

abbrev pub invariant-loop-number : goal.invariant-loop-number
invariant-loop-number l = record {
  near : (k : ℕ) (d : ℤ) → k < l.number-index → IsNear (get_or l.numbers k d);
}
