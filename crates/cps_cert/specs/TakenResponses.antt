-- Which responses are accepted up to their log.
use Rattle.std.specs.Prelude.{◌≡◌, ℕ, ℤ, List, [], All, Contains, Some}
use Rattle.cps_model.specs.declared.model.CpModel.{CpModel}
use Rattle.cps_model.specs.declared.bound.Bound.TheVariants.{At}
use Rattle.cps_model.specs.declared.status.Status.TheVariants.{Optimal, Infeasible}
use Rattle.cps_model.specs.Solutions.{objective_value, IsSolution}
use Rattle.cps_print.specs.declared.response.Response.{Response}
use Rattle.cps_print.specs.Responses.{response_text}
use Rattle.cps_cert.specs.declared.claim.Claim.TheVariants as claims
use Rattle.cps_cert.specs.Lines.{Phase, at_status, at_lines, in_core, Leads}
use Rattle.cps_cert.specs.Verdicts.{AreLines}

-- the lines of a response's text are accepted, and lead to a phase
pub record IsTaken (m : CpModel) (r : Response) (to : Phase) : Type 0 where
  pub lines : List (List ℕ)
  pub split : AreLines (response_text m r) lines []
  pub leads : Leads m at_status lines to

-- so is each optimal response that has a solution, and its objective as the bound
abbrev pub AreSolvedTaken : CpModel → Type 0
AreSolvedTaken m =
    (r : Response) (a : List ℤ) → r.status ≡ Optimal → r.solution ≡ Some a → r.lower ≡ At (objective_value m a)
    → IsSolution m a → IsTaken m r (at_lines [] (claims.Optimal (objective_value m a)))

-- and each infeasible one that lists assumptions of the model
abbrev pub AreInfeasibleTaken : CpModel → Type 0
AreInfeasibleTaken m =
    (r : Response) → r.status ≡ Infeasible → All (Contains m.assumptions) r.core → IsTaken m r (in_core r.core)
