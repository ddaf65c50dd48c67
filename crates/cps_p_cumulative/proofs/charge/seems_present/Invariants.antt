use Rattle.cps_p_cumulative.proofs.charge.seems_present.Given as goal

abbrev pub invariant-loop-atom : goal.invariant-loop-atom
invariant-loop-atom l = Unit {0}
