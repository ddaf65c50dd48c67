use Rattle.cps_p_cumulative.proofs.windows.Energies.fill.Given as goal

abbrev pub invariant-loop-k : goal.invariant-loop-k
invariant-loop-k l = Unit {0}
