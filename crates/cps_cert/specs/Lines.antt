-- What may stand line by line: a response, the line `%log`, items of which the last is the empty clause, and `%end`.
use Rattle.std.specs.Prelude.{◌≡◌, ℕ, ◌<◌, ◌⊎◌, if◌then◌else◌, ℤ, List, [], ◌∷◌, ◌++◌, length, codes, Contains, Option, Some, None}
use Rattle.std.specs.Fmt.{signed_decimal}
use Rattle.cps_model.specs.declared.model.CpModel.{CpModel}
use Rattle.cps_model.specs.declared.model.Objective.{Objective}
use Rattle.cps_model.specs.Solutions.{shown_value, objective_value, IsSolution}
use Rattle.cps_log.specs.declared.item.LogItem.{LogItem}
use Rattle.cps_log.specs.Writing.{item_line}
use Rattle.cps_log.specs.Subjects.{IsNear}
use Rattle.cps_log.specs.Fitting.{FitsItem}
use Rattle.cps_cert.specs.declared.claim.Claim.{Claim}
use Rattle.cps_cert.specs.declared.claim.Claim.TheVariants as claims
use Rattle.cps_log.specs.Deriving.{Derivation, empty_derivation, after_item, is_closing}
use Rattle.cps_cert.specs.Accepting.{IsAccepted}

-- what stands next
pub data Phase : Type 0 where
  -- the status
  at_status : Phase
  -- behind these values of a solution, the next one
  in_solution : List ℤ → Phase
  -- these lines, and then the log of a claim
  at_lines : List (List ℕ) → Claim → Phase
  -- behind these assumptions, a further one, or the log
  in_core : List ℤ → Phase
  -- an item
  in_log : Claim → Derivation → Phase
  -- The line behind an empty clause that was learnt. Where a further item stands, that item's line is refused and not
  -- the one of the empty clause: what a line is worth does not hang on those behind it.
  at_end : Phase
  -- nothing more
  finished : Phase

abbrev pub optimal_line : List ℕ
optimal_line = codes "status: OPTIMAL"

abbrev pub infeasible_line : List ℕ
infeasible_line = codes "status: INFEASIBLE"

abbrev pub value_line : ℤ → List ℕ
value_line v = codes "solution: " ++ signed_decimal v

abbrev pub assumption_line : ℤ → List ℕ
assumption_line r = codes "sufficient_assumptions_for_infeasibility: " ++ signed_decimal r

-- what is said of an objective where the best value and the bound are this sum
abbrev pub objective_lines : Option Objective → ℤ → List (List ℕ)
objective_lines None sum = []
objective_lines (Some o) sum =
    (codes "objective_value: " ++ signed_decimal (shown_value o sum))
    ∷ (codes "best_objective_bound: " ++ signed_decimal (shown_value o sum)) ∷ []

-- behind a whole solution
abbrev pub phase_of_solution : CpModel → List ℤ → Phase
phase_of_solution m a = at_lines (objective_lines m.objective (objective_value m a)) (claims.Optimal (objective_value m a))

-- behind some values: values are missing, or they are a solution
abbrev pub IsBehindValues : CpModel → List ℤ → Phase → Type 0
IsBehindValues m a next =
    ((length a < length m.variables) × (next ≡ in_solution a))
    ⊎ ((length a ≡ length m.variables) × IsSolution m a × (next ≡ phase_of_solution m a))

abbrev pub phase_after : CpModel → Claim → Derivation → LogItem → Phase
phase_after m claim g item = if is_closing item then at_end else in_log claim (after_item m g item)

-- A value of a solution. One that is too far from 0 is refused at its own line, not at the solution's last.
pub record IsValue (m : CpModel) (a : List ℤ) (line : List ℕ) (next : Phase) : Type 0 where
  pub value : ℤ
  pub near : IsNear value
  pub is : line ≡ value_line value
  pub behind : IsBehindValues m (a ++ value ∷ []) next

-- an assumption of the model; listed ones may repeat, and stand in any order
pub record IsAssumption (m : CpModel) (literals : List ℤ) (line : List ℕ) (next : Phase) : Type 0 where
  pub literal : ℤ
  pub near : IsNear literal
  pub assumed : Contains m.assumptions literal
  pub is : line ≡ assumption_line literal
  pub behind : next ≡ in_core (literals ++ literal ∷ [])

pub record IsItem (m : CpModel) (claim : Claim) (g : Derivation) (line : List ℕ) (next : Phase) : Type 0 where
  pub item : LogItem
  pub fits : FitsItem item
  pub is : line ≡ item_line item
  pub accepted : IsAccepted m claim g item
  pub behind : next ≡ phase_after m claim g item

-- a line is accepted, and leads to what stands next
abbrev pub Takes : CpModel → Phase → List ℕ → Phase → Type 0
Takes m at_status line next =
    ((line ≡ optimal_line) × IsBehindValues m [] next) ⊎ ((line ≡ infeasible_line) × (next ≡ in_core []))
Takes m (in_solution a) line next = IsValue m a line next
Takes m (at_lines [] claim) line next = (line ≡ codes "%log") × (next ≡ in_log claim empty_derivation)
Takes m (at_lines (l ∷ ls) claim) line next = (line ≡ l) × (next ≡ at_lines ls claim)
Takes m (in_core literals) line next =
    IsAssumption m literals line next
    ⊎ ((line ≡ codes "%log") × (next ≡ in_log (claims.Infeasible literals) empty_derivation))
Takes m (in_log claim g) line next = IsItem m claim g line next
Takes m at_end line next = (line ≡ codes "%end") × (next ≡ finished)
Takes m finished line next = ⊥

-- lines are accepted one after another
abbrev pub Leads : CpModel → Phase → List (List ℕ) → Phase → Type 0
Leads m from [] to = from ≡ to
Leads m from (line ∷ lines) to = (next : Phase) × Takes m from line next × Leads m next lines to
