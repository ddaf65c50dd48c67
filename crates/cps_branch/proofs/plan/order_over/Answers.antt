-- One more variable.
use Rattle.std.specs.List.{range_with_len}
use Rattle.std.proofs.Common.{ℕ, ◌≡◌, ◌++◌, ap, arith, ◌∙◌}
use Rattle.cps_branch.specs.Strategies.{listed}
use Rattle.cps_branch.proofs.Plans.{order_more}
use Rattle.cps_branch.proofs.plan.order_over.Goals as goal

pub loop-variable-preserved : goal.loop-variable-preserved
loop-variable-preserved c = c.in_ok-push.ensures.items ∙ order_more c.args.strategies.now c.loop-variable.variable c.loop-variable.order.items c.loop-variable.invariant

pub returns : goal.returns
returns c =
    let all : c.loop-variable.variable ≡ c.args.variables = omega arith in
    c.loop-variable.invariant ∙ ap (λ (n : ℕ). listed c.args.strategies.now ++ range_with_len 0 n) all
