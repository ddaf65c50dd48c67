-- The variables so far are in play.
use Rattle.std.proofs.Common.{ℕ, ◌+◌, ◌*◌, ◌<◌, ◌≡◌, true, length}
use Rattle.cps_branch.specs.Tournament.{AreWon, stands_at}
use Rattle.cps_branch.proofs.ranking.fill.Given as goal

abbrev pub invariant-loop-variable : goal.invariant-loop-variable
invariant-loop-variable l = record {
  size : length l.nodes ≡ 2 * l.count;
  won : AreWon l.count l.nodes;
  each : (i : ℕ) → i < l.variable → stands_at l.nodes (l.count + i) ≡ record { variable = i; activity = 0; in_play = true };
}
