-- Some are aside still.
use Rattle.std.proofs.Common.{ℕ, ◌≡◌, ◌≤◌, ◌<◌}
use Rattle.cps_branch.specs.SetAside.{IsRanking, SameActivities, aside_at, size_of}
use Rattle.cps_branch.proofs.ranking.Ranking.put_back.Given as goal

abbrev pub invariant-variables : goal.invariant-variables
invariant-variables l = record {
  ranking : IsRanking l.self;
  same : SameActivities (size_of l.initial.self) l.initial.self l.self;
  aside : l.self.aside.items ≡ l.initial.self.aside.items;
  out : l.self.out ≤ l.initial.self.out;
  only : (p : ℕ) → l.self.out ≤ p → p < l.initial.self.out → 0 < l.kept → l.kept < (aside_at l.initial.self.aside.items p).after;
}

abbrev pub decreases-variables : goal.decreases-variables
decreases-variables l = l.self.out
