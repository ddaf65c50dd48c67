-- Parts of which models are made. None has a name.
use Rattle.std.specs.Prelude.{ℕ, ℤ, pos, List, [], ◌∷◌, map, Some, None}
use Rattle.std.specs.List.{range_with_len}
use Rattle.cps_model.specs.declared.model.CpModel.{CpModel}
use Rattle.cps_model.specs.declared.model.LinearExpr.{LinearExpr}
use Rattle.cps_model.specs.declared.model.Objective.{Objective}
use Rattle.cps_model.specs.declared.model.Variable.{Variable}
use Rattle.cps_model.specs.declared.constraint.Constraint.{Constraint}
use Rattle.cps_model.specs.declared.constraint.Kind.{Kind}

-- 0, 1, and so on: so many numbers
abbrev pub first : ℕ → List ℕ
first n = range_with_len 0 n

-- references to the first so many variables
abbrev pub references : ℕ → List ℤ
references n = map pos (first n)

-- a variable whose values go from 0 to this number
abbrev pub up_to : ℕ → Variable
up_to greatest = record { name = []; domain = pos 0 ∷ pos greatest ∷ [] }

-- a number
abbrev pub fixed : ℕ → LinearExpr
fixed offset = record { vars = []; coeffs = []; offset = pos offset }

-- the value of a variable, moved on by an offset
abbrev pub moved : ℕ → ℕ → LinearExpr
moved variable offset = record { vars = pos variable ∷ []; coeffs = pos 1 ∷ []; offset = pos offset }

-- a constraint that is always in force
abbrev pub in_force : Kind → Constraint
in_force kind = record { name = []; enforcement = []; kind = kind }

-- the sum of coefficients times the values of variables is minimised, and shown times the scaling
abbrev pub least_of : List ℤ → List ℤ → ℤ → Objective
least_of vars coeffs scaling = record { vars = vars; coeffs = coeffs; offset = pos 0; scaling = scaling; domain = [] }

-- a model without strategies, hint and assumptions
abbrev pub model_of : List Variable → List Constraint → Objective → CpModel
model_of variables constraints objective = record {
  name = [];
  variables = variables;
  constraints = constraints;
  objective = Some objective;
  strategies = [];
  hint = None;
  assumptions = [];
}
