use Rattle.std.proofs.Common.{FitsSigned, w64, arith}
use Rattle.std.proofs.lemmas.Int.{to_z-of_z}
use Rattle.cps_p_arith.proofs.Resting.{possible_at, missed_at}
use Rattle.cps_p_arith.proofs.narrow.is_missed_at.Goals as goal

pub returns-clause-missed : goal.returns-clause-missed
returns-clause-missed c = λ t.
    let v = c.args.value in
    let fits : FitsSigned w64 v = c.ranges.value in
    missed_at c.args.bounds.now c.cut.new.self c.args.demand.now c.args.subject v (rw (to_z-of_z w64 v fits) at c.in_ok-cut.ensures.held) (c.exclude.ensures.sound (grind (arith, t)))

pub returns-clause-possible : goal.returns-clause-possible
returns-clause-possible c = λ f s m.
    let v = c.args.value in
    let fits : FitsSigned w64 v = c.ranges.value in
    possible_at s c.args.demand.now c.args.subject v c.cut.new.self (rw (to_z-of_z w64 v fits) at (c.in_ok-cut.ensures.cut s m)) (c.exclude.ensures.possible (grind (arith, f)))
