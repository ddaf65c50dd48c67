-- What is left to refresh is spoken of by the atoms that are left.
use Rattle.std.proofs.Common.{ℕ, ◌+◌, ◌≡◌, ◌<◌, drop, get_or, false}
use Rattle.cps_branch.specs.Activities.{speaks_of}
use Rattle.cps_branch.specs.Tournament.{stands_at}
use Rattle.cps_branch.specs.SetAside.{IsRanking, SameAside, size_of}
use Rattle.cps_branch.proofs.ranking.Ranking.refresh_clause.Given as goal

abbrev pub invariant-loop-atom : goal.invariant-loop-atom
invariant-loop-atom l = record {
  ranking : IsRanking l.self;
  aside : SameAside l.initial.self l.self;
  others : (i : ℕ) → i < size_of l.initial.self → speaks_of (drop l.atom-index l.clause) i ≡ false → (stands_at l.self.nodes.items (size_of l.initial.self + i)).activity ≡ get_or l.activities i 0;
}
