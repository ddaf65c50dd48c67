-- The runs so far follow one another.
use Rattle.cps_eval.proofs.Following.{Follow}
use Rattle.cps_eval.proofs.intervals.follow_one_another.Given as goal

abbrev pub invariant-loop-k : goal.invariant-loop-k
invariant-loop-k l = Follow l.runs l.k
