use Rattle.std.proofs.Common.{drop, length, ◌≤◌}
use Rattle.cps_p_arith.specs.Products.{IsProductRange}
use Rattle.cps_p_arith.proofs.product.product_range.Given as goal

abbrev pub invariant-loop-k : goal.invariant-loop-k
invariant-loop-k l = record { within : l.k ≤ length l.members; range : IsProductRange (drop l.k l.members) l.range }

abbrev pub decreases-loop-k : goal.decreases-loop-k
decreases-loop-k l = l.k
