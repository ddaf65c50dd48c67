-- The subjects so far.
use Rattle.std.proofs.Common.{◌≡◌, take}
use Rattle.cps_branch.specs.Strategies.{listed}
use Rattle.cps_branch.proofs.plan.subjects_of.Given as goal

abbrev pub invariant-loop-strategy : goal.invariant-loop-strategy
invariant-loop-strategy l = l.order.items ≡ listed (take l.strategy-index l.strategies)
