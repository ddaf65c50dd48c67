-- The references so far are those of variables themselves.
use Rattle.std.proofs.Common.{ℕ, ℤ, ◌<◌, get_or, pos, ◌≤ℤ◌}
use Rattle.cps_subjects.proofs.definable.are_variables.Given as goal

abbrev pub invariant-loop-variable : goal.invariant-loop-variable
invariant-loop-variable l = record {
  variables : (k : ℕ) (d : ℤ) → k < l.variable-index → pos 0 ≤ℤ get_or l.vars k d;
}
