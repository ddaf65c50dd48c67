-- What the references that were gone through give.
use Rattle.std.specs.Prelude.{None}
use Rattle.std.proofs.Common.{ℕ, ◌≡◌, ◌<◌, ◌≤◌, length, drop, get_or}
use Rattle.cps_branch.specs.Hints.{hinted_in}
use Rattle.cps_branch.proofs.hint.note_all.Given as goal

abbrev pub invariant-loop-place : goal.invariant-loop-place
invariant-loop-place l = record {
  vars : l.place ≤ length l.vars;
  values : l.place ≤ length l.values;
  same_length : length l.hints ≡ length l.initial.hints;
  noted : (i : ℕ) → i < length l.hints → get_or l.hints i None ≡ hinted_in (drop l.place l.vars) (drop l.place l.values) i;
}

abbrev pub decreases-loop-place : goal.decreases-loop-place
decreases-loop-place l = l.place
