use Rattle.cps_p_circuit.specs.Counts.{AddsGiven, LeavesOthers}
use Rattle.cps_p_circuit.proofs.degrees.Degrees.exclude.Given as goal

abbrev pub invariant-loop-k : goal.invariant-loop-k
invariant-loop-k l = record {
  given : AddsGiven l.graph l.literals l.self.states.items l.initial.found.items l.found.items;
  rests : LeavesOthers l.graph l.literals l.self l.k l.initial.found.items l.found.items;
}
