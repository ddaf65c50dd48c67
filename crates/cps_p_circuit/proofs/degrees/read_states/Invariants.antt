use Rattle.std.proofs.Common.{◌≡◌, length}
use Rattle.cps_p_circuit.specs.Counts.{AreStatesUpTo}
use Rattle.cps_p_circuit.proofs.degrees.read_states.Given as goal

abbrev pub invariant-loop-literal : goal.invariant-loop-literal
invariant-loop-literal l = record {
  len : length l.states.items ≡ l.literal-index;
  at : AreStatesUpTo l.store l.literals l.literal-index l.states.items;
}
