use Rattle.std.proofs.Common.{ℕ, ◌<◌}
use Rattle.cps_p_sequence.specs.Networks.{IsMarked}
use Rattle.cps_p_sequence.proofs.cuts.is_cut_off.Given as goal

abbrev pub invariant-loop-state : goal.invariant-loop-state
invariant-loop-state l = (q : ℕ) → q < l.state → IsMarked l.row q → IsMarked l.last q → ⊥
