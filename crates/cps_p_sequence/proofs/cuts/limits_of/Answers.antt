-- Each step leads between states that have marks.
use Rattle.std.proofs.Common.{pos}
use Rattle.cps_p_sequence.specs.declared.states.Step.{Step}
use Rattle.cps_p_sequence.proofs.cuts.limits_of.Goals as goal

abbrev no_step : Step
no_step = record { tail = 0; head = 0; label = pos 0 }

pub bounds-layer-step : goal.bounds-layer-step
bounds-layer-step c = (c.requires.tails c.loop-step.step-index no_step c.loop-step-test.true).tail

pub bounds-layer-step-else-not-layer-step : goal.bounds-layer-step-else-not-layer-step
bounds-layer-step-else-not-layer-step c = (c.requires.guide c.loop-step.step-index no_step c.loop-step-test.true).head
