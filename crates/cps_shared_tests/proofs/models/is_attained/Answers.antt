use Rattle.std.proofs.Common.{◌∙◌, [], ◌∷◌, sym, to_z, of_z, w64}
use mir.Facts.{to_z-of_z}
use Rattle.cps_port.proofs.Attained.{attained_at}
use Rattle.cps_shared_tests.proofs.SmallNumbers.{same_number, small_number}
use Rattle.cps_shared_tests.proofs.models.is_attained.Goals as goal

pub returns : goal.returns
returns c equal =
    let same = same_number c.objective.result c.args.value (small_number c.objective.result c.objective.ensures.near) (to_z-of_z c.ranges.value) equal in
    attained_at c.args.model.now (to_z w64 (of_z w64 c.args.value) ∷ []) c.args.value (c.in_ok-satisfies.ensures.0 c.if-not-branch.false) (sym c.objective.ensures.value ∙ same)
