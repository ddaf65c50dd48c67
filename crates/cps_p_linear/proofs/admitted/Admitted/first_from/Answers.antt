-- A defined sum can be no number but the opposite of its offset.
use Rattle.std.specs.Prelude.{unsigned_abs}
use Rattle.std.proofs.Common.{◌<◌, ◌^◌, ◌-ℤ◌, pos, sym, subst, rules, FitsSigned, w64}
use Rattle.std.proofs.lemmas.Int.{to_z-of_z}
use Rattle.cps_domain.proofs.Tests.{true_le}
use Rattle.cps_propagate.specs.Strength.{IsFirstFrom}
use Rattle.cps_p_linear.specs.declared.admitted.Admitted.{Admitted}
use Rattle.cps_p_linear.specs.Admitting.{passes, IsShaped}
use Rattle.cps_p_linear.proofs.BalancedSums.{opposite_fits, first_balanced}
use Rattle.cps_p_linear.proofs.admitted.Admitted.first_from.Goals as goal

pub returns-then-sum-offset : goal.returns-then-sum-offset
returns-then-sum-offset c =
    let offset = c.in-Balanced.offset in
    let end = c.args.sum.now.low in
    let small : unsigned_abs offset < 2 ^ 62 = subst IsShaped c.in-Balanced.is c.requires in
    let fits : FitsSigned w64 offset = search rules in
    let opposite : FitsSigned w64 (pos 0 -ℤ offset) = opposite_fits offset small in
    let fits' : FitsSigned w64 end = search rules in
    let test = simp to_z-of_z at c.if-sum-offset.true in
    simp to_z-of_z (subst (λ (a : Admitted). IsFirstFrom (passes a) end (pos 0 -ℤ offset)) (sym c.in-Balanced.is) (first_balanced offset end (true_le _ _ test)))
