-- Each step leads between states that have marks.
use Rattle.std.proofs.Common.{pos, arith}
use Rattle.cps_p_sequence.specs.declared.states.Step.{Step}
use Rattle.cps_p_sequence.proofs.cuts.guide_back.Goals as goal

abbrev no_step : Step
no_step = record { tail = 0; head = 0; label = pos 0 }

pub index-requires : goal.index-requires
index-requires c = omega (arith, (c.requires.steps c.loop-step.step-index no_step c.loop-step-test.true).tail, c.loop-step.invariant)

pub bounds-heads-step : goal.bounds-heads-step
bounds-heads-step c = (c.requires.steps c.loop-step.step-index no_step c.loop-step-test.true).head

pub index_mut-requires : goal.index_mut-requires
index_mut-requires c = omega (arith, (c.requires.steps c.loop-step.step-index no_step c.loop-step-test.true).tail, c.loop-step.invariant)
