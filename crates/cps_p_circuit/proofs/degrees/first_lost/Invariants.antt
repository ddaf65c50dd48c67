use Rattle.std.proofs.Common.{ℕ, ◌<◌}
use Rattle.cps_p_circuit.specs.Counts.{IsKept, degree_at}
use Rattle.cps_p_circuit.proofs.degrees.first_lost.Given as goal

abbrev pub invariant-loop-v : goal.invariant-loop-v
invariant-loop-v l = (w : ℕ) → w < l.v → IsKept (degree_at l.degrees w)
