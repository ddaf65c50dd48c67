use Rattle.cps_p_sequence.proofs.Numbering.{AreNamed}
use Rattle.cps_p_sequence.proofs.states.steps_of.Given as goal

abbrev pub invariant-loop-step : goal.invariant-loop-step
invariant-loop-step l = AreNamed l.states l.raw l.step-index l.steps.items
