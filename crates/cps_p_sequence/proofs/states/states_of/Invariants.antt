use Rattle.cps_p_sequence.proofs.Numbering.{AreStates}
use Rattle.cps_p_sequence.proofs.states.states_of.Given as goal

abbrev pub invariant-loop-step : goal.invariant-loop-step
invariant-loop-step l = AreStates l.start l.raw l.step-index l.states.items
