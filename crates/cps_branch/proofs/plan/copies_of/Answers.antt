-- One more copy.
use Rattle.std.proofs.Common.{arith, ◌∙◌}
use Rattle.std.proofs.lemmas.List.{take_all}
use Rattle.cps_branch.proofs.Plans.{copied_more}
use Rattle.cps_branch.proofs.plan.copies_of.Goals as goal

pub loop-steering-preserved : goal.loop-steering-preserved
loop-steering-preserved c =
    copied_more c.args.strategies.now c.loop-steering.copies.items c.push.new.self.items c.loop-steering.steering-index c.steering-item.result c.in_ok-copy_of.field-0 (omega arith) c.steering-item.is c.in_ok-copy_of.ensures c.loop-steering.invariant c.in_ok-push.ensures.items

pub returns : goal.returns
returns c = c.loop-steering.invariant ∙ take_all c.loop-steering.steering-index c.args.strategies.now (omega arith)
