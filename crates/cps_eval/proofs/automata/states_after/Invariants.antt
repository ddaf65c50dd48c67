-- The states after the label from those so far.
use Rattle.std.proofs.Common.{take}
use Rattle.cps_eval.proofs.Stepping.{AreAfter}
use Rattle.cps_eval.proofs.automata.states_after.Given as goal

abbrev pub invariant-loop-state : goal.invariant-loop-state
invariant-loop-state l = AreAfter l.steps l.label (take l.state-index l.states) l.after.items
