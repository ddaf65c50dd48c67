-- The next admitted number beyond an end is by more than the slack off it.
use Rattle.std.proofs.Common.{◌≡◌, sym, subst, rules, FitsSigned, w64}
use Rattle.std.proofs.lemmas.Int.{to_z-of_z}
use Rattle.cps_p_linear.specs.declared.ends.Side.{Side}
use Rattle.cps_p_linear.specs.Ends.{IsWithinOf, beyond, end_at}
use Rattle.cps_p_linear.proofs.SpareRoom.{spare_low, spare_high}
use Rattle.cps_p_linear.proofs.pass.spare.Goals as goal

pub returns-in-Some : goal.returns-in-Some
returns-in-Some c = λ v h.
    let sum = c.args.sum.now in
    let before = c.beyond-end.result.high in
    let last = c.in-Some.last in
    let fits : FitsSigned w64 before = search rules in
    let fits' : FitsSigned w64 last = search rules in
    let size = simp to_z-of_z at c.abs_diff.ensures in
    let is = subst (λ (s : Side). before ≡ beyond s (end_at s sum)) c.in-Low.is c.beyond-end.ensures.high in
    subst (λ (s : Side). IsWithinOf s c.abs_diff.result (end_at s sum) v → IsWithinOf s 0 (end_at s sum) v) (sym c.in-Low.is)
    (spare_low c.args.admitted.now sum.low before last c.abs_diff.result is size c.in-Some.ensures v h)

pub returns-in-Some-first_from : goal.returns-in-Some-first_from
returns-in-Some-first_from c = λ v h.
    let sum = c.args.sum.now in
    let after = c.beyond-end.result.low in
    let first = c.in-Some-first_from.first in
    let slack = c.abs_diff-in-Some-first_from.result in
    let fits : FitsSigned w64 after = search rules in
    let fits' : FitsSigned w64 first = search rules in
    let size = simp to_z-of_z at c.abs_diff-in-Some-first_from.ensures in
    let is = subst (λ (s : Side). after ≡ beyond s (end_at s sum)) c.in-High.is c.beyond-end.ensures.low in
    subst (λ (s : Side). IsWithinOf s slack (end_at s sum) v → IsWithinOf s 0 (end_at s sum) v) (sym c.in-High.is)
    (spare_high c.args.admitted.now sum.high after first slack is size c.in-Some-first_from.ensures v h)
