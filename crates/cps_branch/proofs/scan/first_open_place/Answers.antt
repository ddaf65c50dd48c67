use Rattle.std.proofs.Common.{ℕ, ◌≡◌, ◌<◌, ◌⊎◌, ◌+◌, get_or, inl, inr, subst, arith}
use Rattle.cps_branch.specs.Fixed.{IsFixed}
use Rattle.cps_branch.proofs.scan.first_open_place.Goals as goal

below_or_last : (i n : ℕ) → i < n + 1 → (i < n) ⊎ (n ≡ i)
below_or_last i n l = grind arith

pub loop-place-preserved : goal.loop-place-preserved
loop-place-preserved c = λ i low high. elim (below_or_last i c.loop-place.place high) [
  | inl l ↦ c.loop-place.invariant i low l
  | inr e ↦ subst (λ j. IsFixed c.args.store.now (get_or c.args.order.now j 0)) e (c.is_fixed.ensures.0 c.if-not-is_fixed.false)
]
