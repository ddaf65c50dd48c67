-- What a kind demands is what was judged of its lists.
use Rattle.std.proofs.Common.{sym}
use Rattle.cps_eval.proofs.kinds.holds.Goals as goal

pub returns-in-IntDiv : goal.returns-in-IntDiv
returns-in-IntDiv c = rw c.in-IntDiv.is (rw (sym c.as_slice-in-IntDiv.ensures) c.have_quotient.ensures)

pub returns-in-IntMod : goal.returns-in-IntMod
returns-in-IntMod c = rw c.in-IntMod.is (rw (sym c.as_slice-in-IntMod.ensures) c.have_remainder.ensures)

pub returns-in-IntProd : goal.returns-in-IntProd
returns-in-IntProd c = rw c.in-IntProd.is (rw (sym c.as_slice-in-IntProd.ensures) c.have_product.ensures)

pub returns-in-LinMax : goal.returns-in-LinMax
returns-in-LinMax c = rw c.in-LinMax.is (rw (sym c.as_slice-in-LinMax.ensures) c.have_greatest.ensures)

pub returns-in-Table : goal.returns-in-Table
returns-in-Table c = rw c.in-Table.is (rw (sym c.as_slice-in-Table.ensures) c.have_row.ensures)

pub returns-in-AllDiff : goal.returns-in-AllDiff
returns-in-AllDiff c = rw c.in-AllDiff.is (rw (sym c.as_slice-in-AllDiff.ensures) c.have_all_different.ensures)

pub returns-in-NoOverlap : goal.returns-in-NoOverlap
returns-in-NoOverlap c = rw c.in-NoOverlap.is (rw (sym c.as_slice-in-NoOverlap.ensures) c.have_no_overlap.ensures)

pub returns-in-Circuit : goal.returns-in-Circuit
returns-in-Circuit c = rw c.in-Circuit.is (rw (sym c.as_slice-in-Circuit.ensures) (rw (sym c.as_slice-in-Circuit-2.ensures) (rw (sym c.as_slice-in-Circuit-3.ensures) c.have_circuit.ensures)))

pub returns-in_ok-present-in-Cumulative : goal.returns-in_ok-present-in-Cumulative
returns-in_ok-present-in-Cumulative c = rw c.in-Cumulative.is (rw (sym c.as_slice-in-Cumulative.ensures) (rw (sym c.as_slice-in-Cumulative-2.ensures) (rw (sym c.in_ok-present-in-Cumulative.ensures.value) c.have_capacity.ensures)))

pub returns-in-Inverse : goal.returns-in-Inverse
returns-in-Inverse c = rw c.in-Inverse.is (rw (sym c.as_slice-in-Inverse.ensures) (rw (sym c.as_slice-in-Inverse-2.ensures) c.have_inverse.ensures))

pub returns-in-NoOverlap2d : goal.returns-in-NoOverlap2d
returns-in-NoOverlap2d c = rw c.in-NoOverlap2d.is (rw (sym c.as_slice-in-NoOverlap2d.ensures) (rw (sym c.as_slice-in-NoOverlap2d-2.ensures) c.have_no_overlap_2d.ensures))
