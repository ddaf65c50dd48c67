-- The variables so far.
use Rattle.std.specs.List.{range_with_len}
use Rattle.std.proofs.Common.{◌≡◌, ◌++◌}
use Rattle.cps_branch.specs.Strategies.{listed}
use Rattle.cps_branch.proofs.plan.order_over.Given as goal

abbrev pub invariant-loop-variable : goal.invariant-loop-variable
invariant-loop-variable l = l.order.items ≡ listed l.strategies ++ range_with_len 0 l.variable
