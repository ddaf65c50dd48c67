-- The text of a response.
use Rattle.std.specs.Prelude.{ℕ, ◌^◌, ◌≤◌, IsTrue, unsigned_abs, ℤ, List, [], ◌++◌, codes, Option, Some, None}
use Rattle.std.specs.List.{flat_map}
use Rattle.std.specs.Fmt.{signed_decimal}
use Rattle.cps_model.specs.declared.model.CpModel.{CpModel}
use Rattle.cps_model.specs.declared.model.Objective.{Objective}
use Rattle.cps_model.specs.declared.bound.Bound.{Bound}
use Rattle.cps_model.specs.declared.bound.Bound.TheVariants.{At, Infinite}
use Rattle.cps_model.specs.declared.status.Status.{Status}
use Rattle.cps_model.specs.declared.status.Status.TheVariants.{Optimal, Feasible, Infeasible, Unknown}
use Rattle.cps_model.specs.Values.{sum_of}
use Rattle.cps_model.specs.Solutions.{shown_value}
use Rattle.cps_model.specs.Ready.{is_ready_objective}
use Rattle.cps_print.specs.declared.response.Response.{Response}

abbrev pub status_name : Status → List ℕ
status_name Optimal = codes "OPTIMAL"
status_name Feasible = codes "FEASIBLE"
status_name Infeasible = codes "INFEASIBLE"
status_name Unknown = codes "UNKNOWN"

-- a field on a line of its own
abbrev pub line_of : List ℕ → List ℕ → List ℕ
line_of field value = field ++ (codes ": " ++ (value ++ codes "\n"))

-- the solution that is written: that of an optimal or a feasible response
abbrev pub shown_solution : Status → Option (List ℤ) → Option (List ℤ)
shown_solution Optimal solution = solution
shown_solution Feasible solution = solution
shown_solution Infeasible solution = None
shown_solution Unknown solution = None

-- the lower bound that is written: none where there is no solution
abbrev pub shown_lower : Status → Bound → Bound
shown_lower Optimal lower = lower
shown_lower Feasible lower = lower
shown_lower Infeasible lower = Infinite
shown_lower Unknown lower = lower

-- the core that is written: that of an infeasible response
abbrev pub shown_core : Status → List ℤ → List ℤ
shown_core Optimal core = []
shown_core Feasible core = []
shown_core Infeasible core = core
shown_core Unknown core = []

abbrev pub core_line : ℤ → List ℕ
core_line reference = line_of (codes "sufficient_assumptions_for_infeasibility") (signed_decimal reference)

abbrev pub solution_line : ℤ → List ℕ
solution_line value = line_of (codes "solution") (signed_decimal value)

abbrev pub solution_lines : Option (List ℤ) → List ℕ
solution_lines None = []
solution_lines (Some a) = flat_map solution_line a

abbrev pub value_lines : Objective → Option (List ℤ) → List ℕ
value_lines o None = []
value_lines o (Some a) = line_of (codes "objective_value") (signed_decimal (shown_value o (sum_of a o.vars o.coeffs)))

abbrev pub bound_lines : Objective → Bound → List ℕ
bound_lines o Infinite = []
bound_lines o (At lower) = line_of (codes "best_objective_bound") (signed_decimal (shown_value o lower))

-- the objective of the solution and the lower bound, where there is an objective
abbrev pub objective_lines : Option Objective → Option (List ℤ) → Bound → List ℕ
objective_lines None solution lower = []
objective_lines (Some o) solution lower = value_lines o solution ++ bound_lines o lower

-- all but the status
abbrev pub answer_lines : CpModel → Response → List ℕ
answer_lines m r =
    flat_map core_line (shown_core r.status r.core)
    ++ (solution_lines (shown_solution r.status r.solution)
    ++ objective_lines m.objective (shown_solution r.status r.solution) (shown_lower r.status r.lower))

abbrev pub response_text : CpModel → Response → List ℕ
response_text m r = line_of (codes "status") (status_name r.status) ++ answer_lines m r

-- an offset and a scaling factor that can be shown
pub record HasLimits (o : Objective) : Type 0 where
  pub offset : unsigned_abs o.offset ≤ 2 ^ 53
  pub scaling : unsigned_abs o.scaling ≤ 2 ^ 53

abbrev pub HasShowableLimits : Option Objective → Type 0
HasShowableLimits None = Unit {0}
HasShowableLimits (Some o) = HasLimits o

-- a solution at which the objective's references have values, and whose sum is small
abbrev pub IsSummable : Option Objective → Option (List ℤ) → Type 0
IsSummable o None = ⊥
IsSummable o (Some a) = IsTrue (is_ready_objective a o)

-- an optimal and a feasible response have a solution
abbrev pub IsSolved : Option Objective → Status → Option (List ℤ) → Type 0
IsSolved o Optimal solution = IsSummable o solution
IsSolved o Feasible solution = IsSummable o solution
IsSolved o Infeasible solution = Unit {0}
IsSolved o Unknown solution = Unit {0}

-- a bound that is a number
abbrev pub IsFinite : Bound → Type 0
IsFinite Infinite = ⊥
IsFinite (At lower) = Unit {0}

-- every response has one but an infeasible one
abbrev pub HasFiniteBound : Status → Bound → Type 0
HasFiniteBound Optimal lower = IsFinite lower
HasFiniteBound Feasible lower = IsFinite lower
HasFiniteBound Infeasible lower = Unit {0}
HasFiniteBound Unknown lower = IsFinite lower
