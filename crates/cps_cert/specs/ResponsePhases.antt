-- What a response's phases are, and what they know of the claim.
use Rattle.std.specs.Prelude.{ℕ, ℤ, List, [], ◌∷◌, ◌++◌, codes, Option, MatchOption}
use Rattle.std.specs.Fmt.{signed_decimal}
use Rattle.cps_model.specs.declared.model.CpModel.{CpModel}
use Rattle.cps_log.specs.Subjects.{IsNear}
use Rattle.cps_cert.specs.declared.claim.Claim.TheVariants as claims
use Rattle.cps_cert.specs.declared.response.ResponsePhase.{ResponsePhase}
use Rattle.cps_cert.specs.declared.response.ResponsePhase.TheVariants as phases
use Rattle.cps_cert.specs.declared.response.NextPhase.{NextPhase}
use Rattle.cps_cert.specs.declared.response.NextPhase.TheVariants as nexts
use Rattle.cps_log.specs.Deriving.{empty_derivation}
use Rattle.cps_cert.specs.Domains.{IsNearClaim}
use Rattle.cps_cert.specs.Lines.{Phase, at_status, in_solution, at_lines, in_core, in_log, Takes}

abbrev pub shown_line : ℤ → List ℕ
shown_line shown = codes "objective_value: " ++ signed_decimal shown

abbrev pub bound_line : ℤ → List ℕ
bound_line shown = codes "best_objective_bound: " ++ signed_decimal shown

abbrev pub phase_of : ResponsePhase → Phase
phase_of phases.AtStatus = at_status
phase_of (phases.InSolution values) = in_solution values
phase_of (phases.AtObjective shown optimum) = at_lines (shown_line shown ∷ bound_line shown ∷ []) (claims.Optimal optimum)
phase_of (phases.AtBound shown optimum) = at_lines (bound_line shown ∷ []) (claims.Optimal optimum)
phase_of (phases.AtLog optimum) = at_lines [] (claims.Optimal optimum)
phase_of (phases.InCore literals) = in_core literals

abbrev pub phase_of_next : NextPhase → Phase
phase_of_next (nexts.Response phase) = phase_of phase
phase_of_next (nexts.Log claim) = in_log claim empty_derivation

-- an optimum is near wherever one is known
abbrev pub HasNearOptimum : ResponsePhase → Type 0
HasNearOptimum phases.AtStatus = Unit {0}
HasNearOptimum (phases.InSolution values) = Unit {0}
HasNearOptimum (phases.AtObjective shown optimum) = IsNear optimum
HasNearOptimum (phases.AtBound shown optimum) = IsNear optimum
HasNearOptimum (phases.AtLog optimum) = IsNear optimum
HasNearOptimum (phases.InCore literals) = Unit {0}

abbrev pub HasNearNext : NextPhase → Type 0
HasNearNext (nexts.Response phase) = HasNearOptimum phase
HasNearNext (nexts.Log claim) = IsNearClaim claim

abbrev pub HasNear : Option NextPhase → Type 0
HasNear o = MatchOption o (Unit {0}) HasNearNext

-- What is answered to a line: what stands behind it, or nothing where it is not accepted.
abbrev pub IsJudged : CpModel → Phase → List ℕ → Option NextPhase → Type 0
IsJudged m phase line o = MatchOption o ((next : Phase) → ¬ Takes m phase line next) (λ next. Takes m phase line (phase_of_next next))
