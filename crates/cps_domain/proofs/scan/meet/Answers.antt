use Rattle.std.proofs.Common.{arith, pos, rules, get_or, FitsSigned, w64}
use Rattle.std.proofs.lemmas.Int.{ints}
use Rattle.cps_domain.proofs.Meeting.{walk_left, walk_right}
use Rattle.cps_domain.proofs.scan.meet.Goals as goal

pub loop-at-preserved-then-one-at : goal.loop-at-preserved-then-one-at
loop-at-preserved-then-one-at c =
    let f0 : FitsSigned w64 (get_or c.args.one.now c.loop-at.at (pos 0, pos 0)).1 = search rules in
    let f1 : FitsSigned w64 (get_or c.args.other.now c.loop-at.place (pos 0, pos 0)).1 = search rules in
    record {
      so_far = walk_left c.args.one.now c.args.other.now c.loop-at.list.items c.push_shared.new.list.items c.loop-at.at c.loop-at.place c.loop-at-test.true c.if-place-other.true c.requires.first c.requires.second
          (omega (arith, ints, f0, f1)) c.in_ok-push_shared.ensures c.loop-at.invariant.so_far;
      inside = omega (arith, c.loop-at-test.true);
      beside = omega (arith, c.if-place-other.true);
    }

pub loop-at-preserved : goal.loop-at-preserved
loop-at-preserved c =
    let f0 : FitsSigned w64 (get_or c.args.one.now c.loop-at.at (pos 0, pos 0)).1 = search rules in
    let f1 : FitsSigned w64 (get_or c.args.other.now c.loop-at.place (pos 0, pos 0)).1 = search rules in
    record {
      so_far = walk_right c.args.one.now c.args.other.now c.loop-at.list.items c.push_shared.new.list.items c.loop-at.at c.loop-at.place c.loop-at-test.true c.if-place-other.true c.requires.first c.requires.second
          (omega (arith, ints, f0, f1)) c.in_ok-push_shared.ensures c.loop-at.invariant.so_far;
      inside = omega (arith, c.loop-at-test.true);
      beside = omega (arith, c.if-place-other.true);
    }
