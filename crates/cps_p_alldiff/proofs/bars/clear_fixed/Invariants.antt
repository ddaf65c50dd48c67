use Rattle.cps_p_alldiff.specs.Bars.{AreGivenBars}
use Rattle.cps_p_alldiff.proofs.bars.clear_fixed.Given as goal

abbrev pub invariant-loop-place : goal.invariant-loop-place
invariant-loop-place l = AreGivenBars l.store l.subjects l.found.items
