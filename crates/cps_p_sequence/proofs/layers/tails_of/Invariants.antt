use Rattle.cps_p_sequence.specs.Runs.{AreTails}
use Rattle.cps_p_sequence.proofs.layers.tails_of.Given as goal

abbrev pub invariant-loop-step : goal.invariant-loop-step
invariant-loop-step l = AreTails l.store l.subject l.steps l.step-index l.heads l.tails.items
