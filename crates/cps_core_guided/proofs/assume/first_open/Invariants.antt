use Rattle.std.proofs.Common.{ℕ, ◌<◌, ◌≤◌, get_or}
use Rattle.cps_branch.specs.Choice.{IsUndecided}
use Rattle.cps_reform.specs.declared.held.Held.{Held}
use Rattle.cps_reform.specs.Marks.{assumed}
use Rattle.cps_core_guided.proofs.assume.first_open.Given as goal

abbrev pub invariant-loop-place : goal.invariant-loop-place
invariant-loop-place l = (i : ℕ) (d : Held) → i < l.place → 1 ≤ (get_or l.terms i d).weight → IsUndecided l.store (assumed (get_or l.terms i d)) → ⊥
