-- The variables so far have their activities.
use Rattle.std.proofs.Common.{ℕ, ◌+◌, ◌≡◌, ◌<◌, get_or}
use Rattle.cps_branch.specs.Tournament.{stands_at}
use Rattle.cps_branch.specs.SetAside.{IsRanking, SameAside, size_of}
use Rattle.cps_branch.proofs.ranking.Ranking.refresh_all.Given as goal

abbrev pub invariant-loop-variable : goal.invariant-loop-variable
invariant-loop-variable l = record {
  ranking : IsRanking l.self;
  aside : SameAside l.initial.self l.self;
  each : (i : ℕ) → i < l.variable → (stands_at l.self.nodes.items (size_of l.initial.self + i)).activity ≡ get_or l.activities i 0;
}
