use Rattle.cps_p_circuit.specs.Counts.{AddsGiven, LeavesLast}
use Rattle.cps_p_circuit.proofs.degrees.Degrees.require.Given as goal

abbrev pub invariant-loop-v : goal.invariant-loop-v
invariant-loop-v l = record {
  given : AddsGiven l.graph l.literals l.self.states.items l.initial.found.items l.found.items;
  rests : LeavesLast l.literals l.self l.v l.initial.found.items l.found.items;
}
