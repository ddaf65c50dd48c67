use Rattle.cps_p_sequence.proofs.inverse.explain_from.Given as goal

abbrev pub invariant-loop-place : goal.invariant-loop-place
invariant-loop-place l = Unit {0}
