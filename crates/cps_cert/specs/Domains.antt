-- Numbers that the checker knows to be small.
use Rattle.std.specs.Prelude.{◌≡◌, ℕ, ◌-◌, ◌≤◌, ◌<◌, true, ℤ, ◌*ℤ◌, unsigned_abs, List, [], ◌∷◌, length, map, slice_index_or, ◌^◌, IsTrue, Option, Some, None}
use Rattle.std.specs.List.{list_all}
use Rattle.cps_model.specs.declared.model.Objective.{Objective}
use Rattle.cps_model.specs.declared.model.Variable.{Variable}
use Rattle.cps_model.specs.Rules.{names}
use Rattle.cps_model.specs.Values.{variable_of}
use Rattle.cps_model.specs.Within.{is_within}
use Rattle.cps_domain.specs.Window.{Window}
use Rattle.cps_unit.specs.Boxes.{Box}
use Rattle.cps_log.specs.Subjects.{IsNear, variable_domain}
use Rattle.cps_rup.specs.Domains.{box_in}
use Rattle.cps_subjects.specs.Domains.{IsSmallSum}
use Rattle.cps_cert.specs.declared.claim.Claim.{Claim}
use Rattle.cps_cert.specs.declared.claim.Claim.TheVariants as claims

abbrev pub IsSmallObjective : Box → ℕ → Option Objective → Type 0
IsSmallObjective box count None = Unit {0}
IsSmallObjective box count (Some o) = IsSmallSum box count o.vars o.coeffs

-- the value that is claimed to be the least
abbrev pub IsNearClaim : Claim → Type 0
IsNearClaim (claims.Optimal v) = IsNear v
IsNearClaim (claims.Infeasible literals) = Unit {0}
