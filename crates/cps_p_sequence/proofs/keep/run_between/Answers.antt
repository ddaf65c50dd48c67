use Rattle.std.proofs.Common.{rules, arith, w64, FitsSigned}
use Rattle.std.proofs.lemmas.Int.{ints, to_z-of_z}
use Rattle.cps_p_sequence.proofs.Keeping.{max_le}
use Rattle.cps_p_sequence.proofs.keep.run_between.Goals as goal
use Rattle.cps_p_sequence.proofs.keep.run_between.Goals.{then-high-last, else-high-last}

pub returns-clause-from : goal.returns-clause-from
returns-clause-from c x l m =
    let fm : FitsSigned w64 c.max.result = search rules in
    let e = rw (to_z-of_z w64 c.args.first c.ranges.first, to_z-of_z w64 c.args.low c.ranges.low) at c.max.ensures.value in
    rw (to_z-of_z w64 c.max.result fm, e) (max_le c.args.first c.args.low x l m)

pub returns-clause-to : goal.returns-clause-to
returns-clause-to c x l m = elim c.if-high-last.branch [
  | then-high-last w ↦ omega (arith, ints)
  | else-high-last w ↦ omega (arith, ints)
]
