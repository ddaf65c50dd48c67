use Rattle.std.proofs.Common.{ℕ, ◌<◌, ◌≤◌, ◌⊎◌, inl, inr, arith}
use Rattle.cps_branch.proofs.scan.any_open.Goals as goal

nat_cases : (a b : ℕ) → (a < b) ⊎ (b ≤ a)
nat_cases a b = grind arith

pub returns-clause-none : goal.returns-clause-none
returns-clause-none c = λ _ i l. elim (nat_cases i c.min-start.result) [
  | inl before ↦ c.first_open-before.ensures.before i (omega arith) (omega arith)
  | inr after ↦ c.first_open-after.ensures.before i after (omega arith)
]
