-- One value more.
use Rattle.std.proofs.Common.{◌≡◌, ◌+◌, ◌<◌, List, length, take, true, sym, subst, arith, rules, ℤ, FitsSigned, w64}
use Rattle.std.proofs.lemmas.Int.{to_z-of_z}
use Rattle.cps_model.specs.Solutions.{are_within}
use Rattle.cps_cert.proofs.Valued.{within_more}
use Rattle.cps_cert.proofs.assignments.least_values.Goals as goal

pub loop-variable-preserved : goal.loop-variable-preserved
loop-variable-preserved c =
    let vs = c.args.variables.now in
    let k = c.loop-variable.variable-index in
    let l : k < length vs = omega arith in
    let x = c.least_value.result in
    let fits : FitsSigned w64 x = search rules in
    let pushed = simp to_z-of_z at c.in_ok-push.ensures.items in
    let more = within_more vs c.loop-variable.values.items k c.variable-item.result x l c.variable-item.is c.loop-variable.invariant c.least_value.ensures in
    subst (λ (xs : List ℤ). are_within (take (k + 1) vs) xs ≡ true) (sym pushed) more
