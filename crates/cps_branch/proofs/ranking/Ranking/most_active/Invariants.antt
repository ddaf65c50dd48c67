-- Those that were set aside so far are fixed.
use Rattle.std.proofs.Common.{◌≡◌, ◌-◌}
use Rattle.cps_branch.specs.SetAside.{AreAllFixed, IsRanking, SameActivities, SetsAside, aside_of, size_of}
use Rattle.cps_branch.proofs.ranking.Ranking.most_active.Given as goal

abbrev pub invariant-variables : goal.invariant-variables
invariant-variables l = record {
  ranking : IsRanking l.self;
  count : size_of l.self ≡ size_of l.initial.self;
  same : SameActivities (size_of l.initial.self) l.initial.self l.self;
  sets : SetsAside l.store (aside_of l.initial.self) (aside_of l.self);
  fixed : AreAllFixed l.store (aside_of l.self);
}

abbrev pub decreases-variables : goal.decreases-variables
decreases-variables l = size_of l.self - l.self.out
