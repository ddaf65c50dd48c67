use Rattle.std.specs.Ordering.{int_cmp}
use Rattle.std.proofs.Common.{◌≡◌, get_or, pos, w64, FitsSigned, Equal}
use Rattle.std.proofs.lemmas.Int.{to_z-of_z}
use Rattle.cps_p_sequence.proofs.Sorting.{equal_is_same, none_found}
use Rattle.cps_p_sequence.proofs.states.find.Goals as goal

pub returns-in-Ok-clause-some : goal.returns-in-Ok-clause-some
returns-in-Ok-clause-some c =
    let ns = c.args.states.now in
    let x = c.args.state in
    let fits : FitsSigned w64 x = c.ranges.state in
    let same : int_cmp (get_or ns c.in-Ok.number (pos 0)) x ≡ Equal = rw (to_z-of_z w64 x fits) at (c.in-Ok.ensures.ok (pos 0)) in
    record { inside = c.in-Ok.ensures.bound; is = equal_is_same (get_or ns c.in-Ok.number (pos 0)) x same }

pub returns-in-Err : goal.returns-in-Err
returns-in-Err c =
    let ns = c.args.states.now in
    let x = c.args.state in
    let fits : FitsSigned w64 x = c.ranges.state in
    let found = simp to_z-of_z at c.in-Err.ensures.position in
    record { some = tt; none = λ h. none_found ns x _ c.requires found }
