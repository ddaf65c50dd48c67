-- No solution of the worked model has an objective below 2.
use Rattle.std.proofs.Common.{◌≡◌, ℤ, pos, ◌≤ℤ◌, List, [], ◌∷◌, true, Bool, refl, sym, ap, subst, arith}
use Rattle.std.specs.Prelude.{int_le, ◌&&◌, ◌||◌, false, Option, All}
use Rattle.std.proofs.lemmas.Int.{ints}
use Rattle.std.proofs.lemmas.List.Elements.{All-head}
use Rattle.cps_model.specs.declared.bound.Bound.TheVariants.{At}
use Rattle.cps_model.specs.declared.model.CpModel.{CpModel}
use Rattle.cps_model.specs.declared.model.Objective.{Objective}
use Rattle.cps_model.specs.Meaning.{IsSatisfied}
use Rattle.cps_model.specs.Solutions.{objective_sum, objective_value, IsSolution}
use Rattle.cps_model.specs.Values.{sum_of}
use Rattle.cps_port.specs.Incumbents.{IsLowerBound}
use Rattle.cps_shared_tests.specs.Worked.{at_least_two, IsAtLeastTwo}

at_least : (v : ℤ) → int_le (pos 2) v ≡ true → pos 2 ≤ℤ v
at_least v h = grind (arith, ints)

first_of : (a b : Bool) → (a && b) || false ≡ true → a ≡ true
first_of true b h = refl
first_of false b h = cc

pub floor_two : (m : CpModel) → IsAtLeastTwo m → IsLowerBound m (At (pos 2))
unfolding IsLowerBound
floor_two m w a s =
    let kept : All (IsSatisfied m.constraints a) (at_least_two ∷ []) = subst (All (IsSatisfied m.constraints a)) w.constraints s.free.constraints in
    let sum : ℤ = sum_of a (pos 0 ∷ []) (pos 1 ∷ []) in
    let holds = All-head (IsSatisfied m.constraints a) at_least_two [] kept refl in
    let value : objective_value m a ≡ sum = ap (λ (o : Option Objective). objective_sum o a) w.objective in
    subst (λ (v : ℤ). pos 2 ≤ℤ v) (sym value) (at_least sum (first_of (int_le (pos 2) sum) (int_le sum (pos 9223372036854775807)) holds))

pub floor_of : (m : CpModel) (v : ℤ) → ((a : List ℤ) → IsSolution m a → v ≤ℤ objective_value m a) → IsLowerBound m (At v)
unfolding IsLowerBound
floor_of m v h = h
