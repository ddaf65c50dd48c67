-- From the least to the greatest value.
use Rattle.std.proofs.Common.{List, ℤ, ◌∙◌, ap, arith, FitsSigned, w64, rules}
use Rattle.std.proofs.lemmas.Int.{to_z-of_z}
use Rattle.cps_model.specs.Within.{is_within}
use Rattle.cps_log.specs.Boxes.{HasEnds}
use Rattle.cps_rup.specs.Domains.{box_in}
use Rattle.cps_subjects.proofs.Near.{near_fits}
use Rattle.cps_subjects.proofs.Spanned.{small_sum, bounds_of}
use Rattle.cps_subjects.proofs.definable.sum_domain.Goals as goal

pub sum_ends-ends-requires : goal.sum_ends-ends-requires
sum_ends-ends-requires c = rw (c.as_slice.ensures, c.as_slice-2.ensures) (small_sum c.args.domains.now c.args.variables.now c.args.sum.now c.requires.valid c.requires.whole c.requires.definable)

pub with_offset-low-requires : goal.with_offset-low-requires
with_offset-low-requires c =
    let e = c.args.sum.now in
    let low = c.sum_ends-ends.result.low in
    let small = c.sum_ends-ends.ensures.low in
    let fl : FitsSigned w64 low = near_fits low (omega arith) in
    let fo : FitsSigned w64 e.offset = search rules in
    let ends : HasEnds (box_in c.args.domains.now) e.vars e.coeffs low c.sum_ends-ends.result.high = rw (c.as_slice.ensures, c.as_slice-2.ensures) at c.sum_ends-ends.ensures.ends in
    rw (to_z-of_z w64 low fl, to_z-of_z w64 e.offset fo) (bounds_of c.args.domains.now c.args.variables.now e low c.sum_ends-ends.result.high c.requires.valid c.requires.whole c.requires.definable ends).low_small

pub with_offset-high-requires : goal.with_offset-high-requires
with_offset-high-requires c =
    let e = c.args.sum.now in
    let high = c.sum_ends-ends.result.high in
    let small = c.sum_ends-ends.ensures.high in
    let fh : FitsSigned w64 high = near_fits high (omega arith) in
    let fo : FitsSigned w64 e.offset = search rules in
    let ends : HasEnds (box_in c.args.domains.now) e.vars e.coeffs c.sum_ends-ends.result.low high = rw (c.as_slice.ensures, c.as_slice-2.ensures) at c.sum_ends-ends.ensures.ends in
    rw (to_z-of_z w64 high fh, to_z-of_z w64 e.offset fo) (bounds_of c.args.domains.now c.args.variables.now e c.sum_ends-ends.result.low high c.requires.valid c.requires.whole c.requires.definable ends).high_small

pub domain_between-requires : goal.domain_between-requires
domain_between-requires c =
    let e = c.args.sum.now in
    let low = c.sum_ends-ends.result.low in
    let high = c.sum_ends-ends.result.high in
    let small_low = c.sum_ends-ends.ensures.low in
    let small_high = c.sum_ends-ends.ensures.high in
    let fl : FitsSigned w64 low = near_fits low (omega arith) in
    let fh : FitsSigned w64 high = near_fits high (omega arith) in
    let fo : FitsSigned w64 e.offset = search rules in
    let first : FitsSigned w64 c.with_offset-low.result = record { sfits = c.with_offset-low.type_inv } in
    let second : FitsSigned w64 c.with_offset-high.result = record { sfits = c.with_offset-high.type_inv } in
    let ends : HasEnds (box_in c.args.domains.now) e.vars e.coeffs low high = rw (c.as_slice.ensures, c.as_slice-2.ensures) at c.sum_ends-ends.ensures.ends in
    let bounds = bounds_of c.args.domains.now c.args.variables.now e low high c.requires.valid c.requires.whole c.requires.definable ends in
    let is_low = rw (to_z-of_z w64 low fl, to_z-of_z w64 e.offset fo) at c.with_offset-low.ensures in
    let is_high = rw (to_z-of_z w64 high fh, to_z-of_z w64 e.offset fo) at c.with_offset-high.ensures in
    rw (to_z-of_z w64 c.with_offset-low.result first, to_z-of_z w64 c.with_offset-high.result second, is_low, is_high)
    (record { ordered = bounds.ordered; low = bounds.low_small; high = bounds.high_small })

pub returns : goal.returns
returns c =
    let e = c.args.sum.now in
    let low = c.sum_ends-ends.result.low in
    let high = c.sum_ends-ends.result.high in
    let small_low = c.sum_ends-ends.ensures.low in
    let small_high = c.sum_ends-ends.ensures.high in
    let fl : FitsSigned w64 low = near_fits low (omega arith) in
    let fh : FitsSigned w64 high = near_fits high (omega arith) in
    let fo : FitsSigned w64 e.offset = search rules in
    let first : FitsSigned w64 c.with_offset-low.result = record { sfits = c.with_offset-low.type_inv } in
    let second : FitsSigned w64 c.with_offset-high.result = record { sfits = c.with_offset-high.type_inv } in
    let ends : HasEnds (box_in c.args.domains.now) e.vars e.coeffs low high = rw (c.as_slice.ensures, c.as_slice-2.ensures) at c.sum_ends-ends.ensures.ends in
    let bounds = bounds_of c.args.domains.now c.args.variables.now e low high c.requires.valid c.requires.whole c.requires.definable ends in
    let is_low = rw (to_z-of_z w64 low fl, to_z-of_z w64 e.offset fo) at c.with_offset-low.ensures in
    let is_high = rw (to_z-of_z w64 high fh, to_z-of_z w64 e.offset fo) at c.with_offset-high.ensures in
    let said = rw (to_z-of_z w64 c.with_offset-low.result first, to_z-of_z w64 c.with_offset-high.result second, is_low, is_high) at c.in_ok-domain.ensures in
    λ x. said x ∙ ap (λ (bs : List ℤ). is_within bs x) bounds.is
