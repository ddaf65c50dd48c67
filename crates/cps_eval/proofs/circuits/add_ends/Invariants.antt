-- The nodes so far, and those that are left, are all.
use Rattle.std.proofs.Common.{◌≡◌, ◌++◌, drop}
use Rattle.cps_eval.proofs.circuits.add_ends.Given as goal

abbrev pub invariant-loop-end : goal.invariant-loop-end
invariant-loop-end l = l.nodes.items ++ drop l.end-index l.ends ≡ l.initial.nodes.items ++ l.ends
