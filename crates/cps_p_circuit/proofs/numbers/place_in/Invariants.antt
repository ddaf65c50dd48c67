use Rattle.std.proofs.Common.{◌≢◌, ◌<◌, ℕ, pos, get_or}
use Rattle.cps_p_circuit.proofs.numbers.place_in.Given as goal

abbrev pub invariant-loop-place : goal.invariant-loop-place
invariant-loop-place l = (k : ℕ) → k < l.place → get_or l.numbers k (pos 0) ≢ l.number
