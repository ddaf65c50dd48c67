use Rattle.std.proofs.Common.{refl, w64, FitsSigned}
use Rattle.std.proofs.lemmas.Int.{to_z-of_z}
use Rattle.cps_p_sequence.proofs.states.number_of.Goals as goal

pub unreachable-requires : goal.unreachable-requires
unreachable-requires c =
    let fits : FitsSigned w64 c.args.state = c.ranges.state in
    let none = simp to_z-of_z at c.in-None.ensures.none in
    absurd (none refl c.requires.listed)
