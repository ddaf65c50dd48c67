-- A number that is no assumption's is not listed by a line that is accepted.
use Rattle.std.proofs.Common.{◌∙◌, ap}
use Rattle.std.proofs.lemmas.Int.{to_z-of_z}
use mir.Syntax.{w64}
use Rattle.cps_subjects.proofs.Near.{near_fits}
use Rattle.cps_cert.proofs.Judging.{not_text, not_assumed}
use Rattle.cps_cert.proofs.response.take_assumption.Goals as goal

pub returns-in_default-listed-clause-next : goal.returns-in_default-listed-clause-next
returns-in_default-listed-clause-next c =
    let m = c.args.model.now in
    let number = c.in-Some.number in
    let near = c.in-Some.ensures.0 in
    let same = c.as_slice.ensures ∙ ap (λ m. m.assumptions) c.model.ensures.same in
    not_assumed m c.args.literals number c.args.line.now (not_text c.is_text.result _ c.if-is_text.false c.is_text.ensures.1) near c.in-Some.ensures.1
    (rw (same, to_z-of_z w64 number (near_fits number near)) at c.in_default-listed.ensures)
