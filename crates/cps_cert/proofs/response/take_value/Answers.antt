-- Behind a value stands what stands behind it and the earlier ones.
use Rattle.std.specs.Prelude.{IfOk}
use Rattle.std.proofs.Common.{ℤ, [], ◌∷◌, ◌++◌, subst}
use Rattle.std.proofs.lemmas.Int.{to_z-of_z}
use mir.Syntax.{w64}
use Rattle.cps_subjects.proofs.Near.{near_fits}
use Rattle.cps_cert.proofs.Judging.{IsBehind, behind_value}
use Rattle.cps_cert.proofs.response.take_value.Goals as goal

pub returns-clause-next : goal.returns-clause-next
returns-clause-next c =
    let m = c.args.model.now in
    let value = c.in-Some.value in
    let near = c.in-Some.ensures.0 in
    let answer = c.behind_values.result in
    behind_value m c.args.values value c.args.line.now answer near c.in-Some.ensures.1
    (subst (λ (v : ℤ). IfOk answer (IsBehind m (c.args.values ++ v ∷ []))) (to_z-of_z w64 value (near_fits value near)) (rw c.in_ok-longer.ensures at c.behind_values.ensures.next))
