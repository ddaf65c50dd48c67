use Rattle.std.proofs.Common.{◌≡◌, ℕ, length}
use Rattle.cps_p_circuit.specs.Counts.{nothing, degree_at}
use Rattle.cps_p_circuit.proofs.degrees.clear_degrees.Given as goal

abbrev pub invariant-loop : goal.invariant-loop
invariant-loop l = record {
  len : length l.degrees.items ≡ l.counter;
  none : (v : ℕ) → degree_at l.degrees.items v ≡ nothing;
}
