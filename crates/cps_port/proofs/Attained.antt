-- Solutions' objectives are small, and how a solution is shown.
use Rattle.std.specs.Prelude.{Option, Some, None, unsigned_abs, ◌+◌, ◌^◌, ◌<◌, ◌&&◌}
use Rattle.std.specs.List.{list_all}
use Rattle.std.proofs.Common.{◌≡◌, ℤ, List, length, true, arith, lit<, subst}
use borrow.Author.Tests.{ltb-true}
use Rattle.cps_model.specs.declared.model.CpModel.{CpModel}
use Rattle.cps_model.specs.declared.model.Objective.{Objective}
use Rattle.cps_model.specs.Reach.{weight_of}
use Rattle.cps_model.specs.Rules.{is_small, names, is_paired, sum_of_objective}
use Rattle.cps_model.specs.Ready.{is_ready_objective}
use Rattle.cps_model.specs.Solutions.{objective_sum, objective_value, IsSolution}
use Rattle.cps_model.specs.Validity.{IsValid}
use Rattle.cps_model.proofs.Inside.{model_ready}
use Rattle.cps_model.proofs.Sums.{sum_of-weight}
use Rattle.cps_model.proofs.Tests.{and_true}
use Rattle.cps_port.specs.Incumbents.{IsAttained}

sum_small : (a : List ℤ) (o : Option Objective) → is_ready_objective a o ≡ true → unsigned_abs (objective_sum o a) < 2 ^ 62
sum_small a None r = lit< tt
sum_small a (Some o) r =
    let e = sum_of_objective o in
    let small = (and_true (list_all (names (length a)) e.vars && is_paired e) (is_small (weight_of a e.vars e.coeffs + unsigned_abs e.offset)) r).1 in
    let below = ltb-true (weight_of a e.vars e.coeffs + unsigned_abs e.offset) (2 ^ 62) small in
    let sum = sum_of-weight a o.vars o.coeffs in
    omega arith

-- a solution's objective has a magnitude below 2 ^ 62
pub attained_small : (m : CpModel) (v : ℤ) → IsValid m → IsAttained m v → unsigned_abs v < 2 ^ 62
unfolding IsAttained
attained_small m v valid h = subst (λ (z : ℤ). unsigned_abs z < 2 ^ 62) h.2 (sum_small h.0 m.objective (model_ready m h.0 valid h.1.free.domains).objective)

-- a solution shows its objective
pub attained_at : (m : CpModel) (a : List ℤ) (v : ℤ) → IsSolution m a → objective_value m a ≡ v → IsAttained m v
unfolding IsAttained
attained_at m a v s e = (a, s, e)
