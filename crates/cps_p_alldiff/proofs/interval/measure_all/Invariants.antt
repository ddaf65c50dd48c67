use Rattle.std.proofs.Common.{take}
use Rattle.cps_p_alldiff.specs.Intervals.{AreTightIntervals}
use Rattle.cps_p_alldiff.proofs.interval.measure_all.Given as goal

abbrev pub invariant-loop-place : goal.invariant-loop-place
invariant-loop-place l = AreTightIntervals l.store (take l.place l.subjects) (take l.place l.ends)
