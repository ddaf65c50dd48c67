-- A subject more has no reader yet; the one that was added has one more.
use Rattle.std.proofs.Common.{◌∙◌, arith}
use Rattle.cps_propagate.proofs.Reading.{IsListed-set, readers-grown, one_longer}
use Rattle.cps_propagate.proofs.readers.Lists.add.Goals as goal

pub loop-preserved : goal.loop-preserved
loop-preserved c = record {
  same = λ i. readers-grown (λ v. v.items) c.loop.self-inside.lists.items c.push.new.self.items c.new.result c.in_ok-push.ensures.items c.new.ensures.items i ∙ c.loop.invariant.same i;
  count = one_longer c.loop.self-inside.lists.items c.push.new.self.items c.new.result c.loop.counter c.in_ok-push.ensures.items c.loop.invariant.count;
}

pub returns : goal.returns
returns c = IsListed-set (λ v. v.items) c.loop.self-inside.lists.items _ _ _ c.push-2.new.self c.index_mut.result.now c.loop.invariant.same (omega (arith, c.loop.invariant.count, c.loop-test.false)) c.index_mut.ensures.value c.in_ok-push-2.ensures.items
