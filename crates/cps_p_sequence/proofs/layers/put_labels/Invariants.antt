use Rattle.cps_p_sequence.specs.Runs.{AreLabels}
use Rattle.cps_p_sequence.proofs.layers.put_labels.Given as goal

abbrev pub invariant-loop-step : goal.invariant-loop-step
invariant-loop-step l = AreLabels l.store l.position.subject l.position.steps.now l.step-index l.tails l.heads l.labels.items
