-- The strategies so far.
use Rattle.std.proofs.Common.{◌≡◌, take}
use Rattle.cps_branch.proofs.plan.copies_of.Given as goal

abbrev pub invariant-loop-steering : goal.invariant-loop-steering
invariant-loop-steering l = l.copies.items ≡ take l.steering-index l.strategies
