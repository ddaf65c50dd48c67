use Rattle.std.proofs.Common.{ℤ, subst}
use mir.Facts.{to_z-of_z}
use Rattle.cps_model.specs.declared.bound.Bound.TheVariants.{At}
use Rattle.cps_port.specs.Incumbents.{IsLowerBound}
use Rattle.cps_shared_tests.proofs.SmallNumbers.{same_number, small_number}
use Rattle.cps_shared_tests.proofs.WorkedFloors.{floor_of}
use Rattle.cps_shared_tests.proofs.words.starts_at.Goals as goal

pub returns : goal.returns
returns c equal =
    let m = c.args.model.now in
    let same = same_number c.objective_start.result c.args.start (small_number c.objective_start.result c.objective_start.ensures.near) (to_z-of_z c.ranges.start) equal in
    subst (λ (v : ℤ). IsLowerBound m (At v)) same (floor_of m c.objective_start.result c.objective_start.ensures.least)
