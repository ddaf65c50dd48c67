-- How many assignments a box has of the variables that a constraint and some sums read.
use Rattle.std.specs.Prelude.{◌≡◌, ◌↔◌, ℕ, zero, suc, ◌+◌, ◌*◌, ◌^◌, ◌==◌, Bool, true, ℤ, List, [], ◌++◌, map, length, Contains, Option, Some, None, MatchBool}
use Rattle.std.specs.List.{list_any, flat_map}
use Rattle.cps_model.specs.declared.model.LinearExpr.{LinearExpr}
use Rattle.cps_model.specs.declared.model.Variable.{Variable}
use Rattle.cps_model.specs.declared.constraint.Constraint.{Constraint}
use Rattle.cps_model.specs.declared.constraint.Kind.{Kind}
use Rattle.cps_model.specs.declared.constraint.Kind.TheVariants.{Interval}
use Rattle.cps_model.specs.Values.{variable_of, variable_value}
use Rattle.cps_model.specs.Rising.{IsRising}
use Rattle.cps_model.specs.Rules.{literals_of, sums_of, references_of, intervals_of}
use Rattle.cps_model.specs.Scheduling.{constraint_at}
use Rattle.cps_literal.specs.declared.atom.Atom.{Atom}
use Rattle.cps_log.specs.Subjects.{sum_at}
use Rattle.cps_unit.specs.Boxes.{Box}

-- the most assignments that are tried
abbrev pub most_assignments : ℕ
most_assignments = 2 ^ 16

-- ---- which variables are read

abbrev pub variables_of : List ℤ → List ℕ
variables_of references = map variable_of references

abbrev pub variables_of_sum : LinearExpr → List ℕ
variables_of_sum e = variables_of e.vars

-- the variables that stand in a constraint
abbrev pub own_variables : Constraint → List ℕ
own_variables c =
    variables_of (c.enforcement ++ (literals_of c.kind ++ references_of c.kind))
    ++ flat_map variables_of_sum (sums_of c.kind)

-- the variables of an interval's start and end: what names it does not see its size
abbrev pub variables_of_run : Kind → List ℕ
variables_of_run (Interval start end size) = variables_of_sum start ++ variables_of_sum end
variables_of_run kind = []

-- the variables that say whether and when a named interval runs
abbrev pub variables_of_named : Option Constraint → List ℕ
variables_of_named None = []
variables_of_named (Some c) = variables_of c.enforcement ++ variables_of_run c.kind

-- the variables that stand in a constraint, and those that say when the intervals run that it names
abbrev pub read_variables : List Constraint → Constraint → List ℕ
read_variables cs c = own_variables c ++ flat_map (λ i. variables_of_named (constraint_at cs i)) (intervals_of c.kind)

abbrev pub variables_of_some_sum : Option LinearExpr → List ℕ
variables_of_some_sum None = []
variables_of_some_sum (Some e) = variables_of_sum e

-- the variables of the sums that a clause's atoms are about
abbrev pub sum_variables : List Variable → List LinearExpr → List Atom → List ℕ
sum_variables vs sums clause = flat_map (λ (t : Atom). variables_of_some_sum (sum_at vs sums t.subject)) clause

-- two assignments have the same values of these variables
abbrev pub HaveSame : List ℤ → List ℤ → List ℕ → Type 0
HaveSame a b variables = (v : ℕ) → Contains variables v → variable_value a v ≡ variable_value b v

-- ---- how many assignments

abbrev pub is_listed : List ℕ → ℕ → Bool
is_listed ns n = list_any (λ m. m == n) ns

-- so many numbers pass a test: these, rising
pub record HasCount (admits : ℤ → Bool) (n : ℕ) : Type 0 where
  pub values : List ℤ
  pub rising : IsRising values
  pub all : (x : ℤ) → (admits x ≡ true) ↔ Contains values x
  pub count : length values ≡ n

-- The assignments in a box of those variables that are listed: of the next `more` variables, from i on.
abbrev pub HasAssignments : Box → List ℕ → ℕ → ℕ → ℕ → Type 0
HasAssignments box listed i zero n = n ≡ 1
HasAssignments box listed i (suc more) n =
    MatchBool (is_listed listed i)
    ((k : ℕ) × (m : ℕ) × HasCount (box i) k × HasAssignments box listed (i + 1) more m × (n ≡ k * m))
    (HasAssignments box listed (i + 1) more n)
