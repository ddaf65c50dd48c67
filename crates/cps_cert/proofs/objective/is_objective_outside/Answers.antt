-- The ends are one pair, and the objectives at issue end at one number.
use Rattle.std.proofs.Common.{arith, FitsSigned, w64}
use Rattle.std.proofs.lemmas.Int.{to_z-of_z}
use Rattle.cps_model.specs.Within.{is_allowed}
use Rattle.cps_log.specs.Boxes.{HasEnds}
use Rattle.cps_cert.specs.Accepting.{is_at_issue}
use Rattle.cps_rup.specs.Domains.{box_in}
use Rattle.cps_subjects.proofs.Near.{near_fits}
use Rattle.cps_cert.proofs.Outside.{outside_if, outside_only, issue_if, issue_only}
use Rattle.cps_cert.proofs.objective.is_objective_outside.Goals as goal

pub returns : goal.returns
returns c =
    let o = c.args.objective.now in
    let claim = c.args.claim.now in
    let box = box_in c.args.domains.now in
    let low = c.sum_ends-ends.result.low in
    let high = c.sum_ends-ends.result.high in
    let last = c.greatest_at_issue-high.result in
    let small_low = c.sum_ends-ends.ensures.low in
    let small_high = c.sum_ends-ends.ensures.high in
    let fl : FitsSigned w64 low = near_fits low (omega arith) in
    let fh : FitsSigned w64 high = near_fits high (omega arith) in
    let fq : FitsSigned w64 last = record { sfits = c.greatest_at_issue-high.type_inv } in
    let ends : HasEnds box o.vars o.coeffs low high = rw (c.as_slice.ensures, c.as_slice-2.ensures) at c.sum_ends-ends.ensures.ends in
    let said = rw (to_z-of_z w64 low fl, to_z-of_z w64 last fq, c.as_slice-3.ensures) at c.none_allowed.ensures in
    let below = rw (to_z-of_z w64 high fh) at c.greatest_at_issue-high.ensures.below in
    let above = rw (to_z-of_z w64 high fh) at c.greatest_at_issue-high.ensures.above in (
      λ h. outside_if box o.vars o.coeffs _ low high ends (issue_if low high last (is_allowed o.domain) (is_at_issue claim) above (said.0 h)),
      λ h. said.1 (issue_only low high last (is_allowed o.domain) (is_at_issue claim) below (outside_only box o.vars o.coeffs _ low high ends h)),
    )
