-- The activities so far are halved.
use Rattle.std.proofs.Common.{ℕ, ◌≡◌, ◌++◌, ◌/◌, map, take, drop}
use Rattle.cps_branch.proofs.bump.halve.Given as goal

abbrev pub invariant-loop-activity : goal.invariant-loop-activity
invariant-loop-activity l = l.activities ≡ map (λ (a : ℕ). a / 2) (take l.activity-index l.initial.activities) ++ drop l.activity-index l.initial.activities
