use Rattle.cps_p_cumulative.proofs.windows.Energies.sort.Given as goal

abbrev pub invariant-loop-place : goal.invariant-loop-place
invariant-loop-place l = Unit {0}
