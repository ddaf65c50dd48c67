use Rattle.std.proofs.Common.{ℕ, ◌+◌, ◌<◌, ◌≡◌, ◌⊎◌, ◌∙◌, inl, inr, true, subst, arith}
use Rattle.cps_branch.specs.Tournament.{nobody, stands_at}
use Rattle.cps_branch.proofs.Tournaments.{won_alike}
use Rattle.cps_branch.proofs.ranking.fill.Goals as goal

below_or_last : (i n : ℕ) → i < n + 1 → ((i < n) × (i ≡ n → ⊥)) ⊎ (n ≡ i)
below_or_last i n l = grind arith

pub loop-variable-init : goal.loop-variable-init
loop-variable-init c = record {
  size = c.requires.size;
  won = won_alike c.args.count c.args.nodes.now nobody c.requires.empty;
  each = λ i l. absurd (omega arith);
}

pub loop-variable-preserved : goal.loop-variable-preserved
loop-variable-preserved c =
    let i = c.loop-variable.invariant in
    record {
      size = omega (arith, i.size);
      won = c.enter.ensures.won;
      each = λ k l. elim (below_or_last k c.loop-variable.variable l) [
        | inl below ↦ c.enter.ensures.others k below.1 ∙ i.each k below.0
        | inr last ↦ subst (λ (j : ℕ). stands_at c.enter.new.nodes (c.args.count + j) ≡ record { variable = j; activity = 0; in_play = true }) last c.enter.ensures.here
      ];
    }
