use Rattle.std.proofs.Common.{arith, subst, ◌∙◌}
use Rattle.cps_conflict.specs.Conflicts.{AreTrueReasons}
use Rattle.cps_conflict.specs.Leading.{FollowedSoFar, IsFetched}
use Rattle.cps_conflict.proofs.leading.follow.Goals as goal

pub loop-place-preserved : goal.loop-place-preserved
loop-place-preserved g c =
    let s = c.args.store.now in
    let made = IsFetched (g.E.Explain.makes c.args.explain.now s) s in
    let holds = AreTrueReasons (g.E.Explain.makes c.args.explain.now c.args.store.now) c.args.store.now in
    record {
      within = omega (arith, c.loop-place.invariant.within);
      same_length = c.in_ok-follow_one.ensures.same_length ∙ c.loop-place.invariant.same_length;
      followed = λ t h. c.in_ok-follow_one.ensures.followed t
          (subst (λ k. FollowedSoFar made holds s t k c.loop-place.marks) (omega (arith, c.loop-place-test.true)) (c.loop-place.invariant.followed t h));
    }

pub returns-clause-followed : goal.returns-clause-followed
returns-clause-followed g c =
    let s = c.args.store.now in
    let made = IsFetched (g.E.Explain.makes c.args.explain.now s) s in
    let holds = AreTrueReasons (g.E.Explain.makes c.args.explain.now c.args.store.now) c.args.store.now in
    λ t h. subst (λ k. FollowedSoFar made holds s t k c.loop-place.marks) (omega (arith, c.loop-place-test.false)) (c.loop-place.invariant.followed t h)
