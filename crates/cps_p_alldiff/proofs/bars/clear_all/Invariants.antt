use Rattle.cps_p_alldiff.specs.Bars.{AreGivenBars}
use Rattle.cps_p_alldiff.proofs.bars.clear_all.Given as goal

abbrev pub invariant-loop-hall : goal.invariant-loop-hall
invariant-loop-hall l = AreGivenBars l.store l.subjects l.found.items
