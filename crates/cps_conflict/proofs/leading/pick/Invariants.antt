use Rattle.cps_conflict.specs.Leading.{ArePicked}
use Rattle.cps_conflict.proofs.leading.pick.Given as goal

abbrev pub invariant-loop-place : goal.invariant-loop-place
invariant-loop-place l = ArePicked l.store l.marks l.place l.decisions.items
