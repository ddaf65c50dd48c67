use Rattle.cps_p_sequence.specs.Networks.{AreFinals}
use Rattle.cps_p_sequence.proofs.states.mark_finals.Given as goal

abbrev pub invariant-loop-state : goal.invariant-loop-state
invariant-loop-state l = AreFinals l.finals l.states l.state-index l.last.items
