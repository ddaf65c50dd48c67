-- The heads so far, and those that are left, are all.
use Rattle.std.proofs.Common.{◌≡◌, ◌++◌, drop, map}
use Rattle.cps_eval.proofs.automata.add_heads.Given as goal

abbrev pub invariant-loop-step : goal.invariant-loop-step
invariant-loop-step l = l.states.items ++ map (λ step. step.head) (drop l.step-index l.steps) ≡ l.initial.states.items ++ map (λ step. step.head) l.steps
