-- What is said of a model that was generated and solved.
use Rattle.std.specs.Prelude.{ℕ, IsTrue, ℤ, List, length, ◌++◌, codes, Option, Some, None, IfSome}
use Rattle.std.specs.Fmt.{decimal}
use Rattle.cps_model.specs.declared.model.CpModel.{CpModel}
use Rattle.cps_model.specs.declared.model.Objective.{Objective}
use Rattle.cps_model.specs.declared.status.Status.{Status}
use Rattle.cps_model.specs.Ready.{is_ready_objective}
use Rattle.cps_print.specs.Responses.{status_name, line_of, value_lines}

-- the objective at the solution, and the word for none where there is no solution, or nothing is summed up
abbrev pub best_line : Option Objective → Option (List ℤ) → List ℕ
best_line None solution = line_of (codes "objective_value") (codes "none")
best_line (Some o) None = line_of (codes "objective_value") (codes "none")
best_line (Some o) (Some a) = value_lines o (Some a)

-- how many variables and constraints the model has, the status, and the objective at the solution
abbrev pub demo_text : CpModel → Status → Option (List ℤ) → List ℕ
demo_text m status solution =
    line_of (codes "variables") (decimal (length m.variables))
    ++ (line_of (codes "constraints") (decimal (length m.constraints))
    ++ (line_of (codes "status") (status_name status) ++ best_line m.objective solution))

-- the objective can be summed up at the solution, if there is one
abbrev pub IsReadySolution : Option Objective → Option (List ℤ) → Type 0
IsReadySolution o solution = IfSome solution (λ a. IsTrue (is_ready_objective a o))
