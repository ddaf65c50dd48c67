-- A defined sum can be no number but the opposite of its offset.
use Rattle.std.specs.Prelude.{unsigned_abs}
use Rattle.std.proofs.Common.{◌<◌, ◌^◌, ◌-ℤ◌, pos, sym, subst, rules, FitsSigned, w64}
use Rattle.std.proofs.lemmas.Int.{to_z-of_z}
use Rattle.cps_domain.proofs.Tests.{true_le}
use Rattle.cps_propagate.specs.Strength.{IsLastUpTo}
use Rattle.cps_p_linear.specs.declared.admitted.Admitted.{Admitted}
use Rattle.cps_p_linear.specs.Admitting.{passes, IsShaped}
use Rattle.cps_p_linear.proofs.BalancedSums.{opposite_fits, last_balanced}
use Rattle.cps_p_linear.proofs.admitted.Admitted.last_up_to.Goals as goal

pub returns-then-offset-sum : goal.returns-then-offset-sum
returns-then-offset-sum c =
    let offset = c.in-Balanced.offset in
    let end = c.args.sum.now.high in
    let small : unsigned_abs offset < 2 ^ 62 = subst IsShaped c.in-Balanced.is c.requires in
    let fits : FitsSigned w64 offset = search rules in
    let opposite : FitsSigned w64 (pos 0 -ℤ offset) = opposite_fits offset small in
    let fits' : FitsSigned w64 end = search rules in
    let test = simp to_z-of_z at c.if-offset-sum.true in
    simp to_z-of_z (subst (λ (a : Admitted). IsLastUpTo (passes a) end (pos 0 -ℤ offset)) (sym c.in-Balanced.is) (last_balanced offset end (true_le _ _ test)))
