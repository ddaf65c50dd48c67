use Rattle.std.proofs.Common.{vec_len}
use Rattle.cps_conflict.specs.Nodes.{Carries}
use Rattle.cps_conflict.proofs.minimiser.Minimiser.fail.Given as goal

abbrev pub invariant-loop-index : goal.invariant-loop-index
invariant-loop-index l = Carries l.fn.self l.self

abbrev pub decreases-loop-index : goal.decreases-loop-index
decreases-loop-index l = vec_len l.self.path
