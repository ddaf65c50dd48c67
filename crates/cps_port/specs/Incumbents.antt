-- What is said of all solutions, each by one name. A proof that only carries such a fact need not open it.
use Rattle.std.specs.Prelude.{◌≡◌, ℤ, List, IsTrue}
use Rattle.cps_model.specs.declared.bound.Bound.{Bound}
use Rattle.cps_model.specs.declared.bound.Bound.TheVariants.{At, Infinite}
use Rattle.cps_model.specs.declared.model.CpModel.{CpModel}
use Rattle.cps_model.specs.Solutions.{objective_value, IsFree, IsSolution}
use Rattle.cps_model.specs.Statuses.{IsAtMost}
use Rattle.cps_literal.specs.declared.atom.Atom.{Atom}
use Rattle.cps_literal.specs.Truth.{clause_holds}
use Rattle.cps_port.specs.Order.{IsBelow}

-- The clause is true at each free assignment whose objective is below the bound. The assumptions are not used.
unfoldable pub HoldsBelow : CpModel → Bound → List Atom → Type 0
HoldsBelow m z c = (a : List ℤ) → IsFree m a → IsBelow (objective_value m a) z → IsTrue (clause_holds c a)

-- some solution has this objective
unfoldable pub IsAttained : CpModel → ℤ → Type 0
IsAttained m v = (a : List ℤ) × IsSolution m a × (objective_value m a ≡ v)

-- a bound that an incumbent shows: some solution's objective, or `Infinite`
unfoldable pub IsIncumbent : CpModel → Bound → Type 0
IsIncumbent m (At v) = IsAttained m v
IsIncumbent m Infinite = Unit {0}

-- each solution's objective is at least the bound; where it is `Infinite`, there is no solution
unfoldable pub IsLowerBound : CpModel → Bound → Type 0
IsLowerBound m b = (a : List ℤ) → IsSolution m a → IsAtMost b (objective_value m a)
