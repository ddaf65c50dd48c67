use Rattle.cps_p_sequence.specs.Runs.{AreHeads}
use Rattle.cps_p_sequence.proofs.layers.heads_of.Given as goal

abbrev pub invariant-loop-step : goal.invariant-loop-step
invariant-loop-step l = AreHeads l.store l.subject l.steps l.step-index l.tails l.heads.items
