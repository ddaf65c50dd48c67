use Rattle.std.proofs.Common.{ℕ, ◌≡◌, ◌<◌, ◌⊎◌, ◌+◌, inl, inr, subst, arith}
use Rattle.cps_branch.specs.Fixed.{IsFixed}
use Rattle.cps_branch.proofs.scan.first_open.Goals as goal

below_or_last : (i n : ℕ) → i < n + 1 → (i < n) ⊎ (n ≡ i)
below_or_last i n l = grind arith

pub loop-subject-preserved : goal.loop-subject-preserved
loop-subject-preserved c = λ i low high. elim (below_or_last i c.loop-subject.subject high) [
  | inl l ↦ c.loop-subject.invariant i low l
  | inr e ↦ subst (λ j. IsFixed c.args.store.now j) e (c.is_fixed.ensures.0 c.if-not-is_fixed.false)
]
