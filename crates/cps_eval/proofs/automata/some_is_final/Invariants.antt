-- No final state so far is among the states.
use Rattle.std.specs.Prelude.{Contains}
use Rattle.std.proofs.Common.{ℕ, ◌<◌, get_or, pos}
use Rattle.cps_eval.proofs.automata.some_is_final.Given as goal

abbrev pub invariant-loop-state : goal.invariant-loop-state
invariant-loop-state l = (k : ℕ) → k < l.state-index → Contains l.states.items (get_or l.finals k (pos 0)) → ⊥
