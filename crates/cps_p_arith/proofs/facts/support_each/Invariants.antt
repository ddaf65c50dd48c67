use Rattle.std.proofs.Common.{take}
use Rattle.cps_p_arith.specs.Demands.{SupportsEach}
use Rattle.cps_p_arith.proofs.facts.support_each.Given as goal

abbrev pub invariant-loop-k : goal.invariant-loop-k
invariant-loop-k l = SupportsEach l.past l.supposed (take l.k l.exprs) (take l.k l.ends) l.initial.facts.items l.facts.items
