use Rattle.std.proofs.Common.{◌≡◌, ◌∙◌, ◌⊎◌, ℕ, sym, inl, inr}
use Rattle.cps_rule_tests.proofs.Readiness.{ready_by}
use Rattle.cps_rule_tests.proofs.reservoirs.reservoir.Goals as goal

tied_as : (a b t u : ℕ) → b ≡ a → u ≡ t → (a ≡ 0) ⊎ (a ≡ t) → (b ≡ 0) ⊎ (b ≡ u)
tied_as a b t u e f tied = elim tied [
  | inl none ↦ inl (e ∙ none)
  | inr all ↦ inr (e ∙ all ∙ sym f)
]

pub returns : goal.returns
returns c =
    let times = c.in_ok-times.ensures in
    let active = c.in_ok-active.ensures in
    let zero = c.has_zero-is_level.ensures c.if-not-is_level.false in
    ready_by c.args.store.now.first c.in_ok-propagator.propagator _ c.in_ok-propagator.ensures c.new.ensures
    (record {
      paired = times ∙ sym c.in_ok-changes.ensures;
      tied = tied_as _ _ _ _ active.count times (c.are_tied-is_tied.ensures c.if-not-is_tied.false);
      low = zero.0;
      high = zero.1;
      active_fit = active.fit;
    })
