-- Which item of a log a clause is that a task gives, and how the sums of a log go with those of an instance. The
-- numbers of tasks tell: first come those of the constraints, then those of the sums, and last those of the objective.
use Rattle.std.specs.Prelude.{◌≡◌, ℕ, ◌+◌, ◌-◌, ◌<◌, ◌≤◌, nat_lt, if◌then◌else◌, Bool, true, ◌&&◌, ℤ, pos, Option, Some, None, List, [], ◌∷◌, map, length, All, slice_index_or}
use Rattle.cps_model.specs.declared.model.LinearExpr.{LinearExpr}
use Rattle.cps_model.specs.Values.{expression_value}
use Rattle.cps_model.specs.Ranges.{least_value, greatest_value}
use Rattle.cps_domain.specs.Window.{is_among, equals}
use Rattle.cps_literal.specs.declared.atom.Atom.{Atom}
use Rattle.cps_literal.specs.Truth.{value_at}
use Rattle.cps_instance.specs.declared.task.Task.{Task}
use Rattle.cps_instance.specs.declared.task.Body.{Body}
use Rattle.cps_instance.specs.declared.task.Body.TheVariants.{Sum}
use Rattle.cps_instance.specs.declared.term.Term.{Term}
use Rattle.cps_instance.specs.Terms.{Intervals, Domains, domain_at, least_of, greatest_of}
use Rattle.cps_instance.specs.Sums.{DefinedSum, sum_value, least_sum_of, greatest_sum_of}
use Rattle.cps_instance.specs.Tasks.{HoldsTask}
use Rattle.cps_instance.specs.Strategies.{model_sums, first_tasks}
use Rattle.cps_instance.specs.Problem.{Problem, variable_count}
use Rattle.cps_trail.specs.Adds.{Follows}
use Rattle.cps_log.specs.declared.item.LogItem.{LogItem}
use Rattle.cps_log.specs.declared.item.LogItem.TheVariants as items
use Rattle.cps_log.specs.Subjects.{subject_count, IsDefinable, IsClauseOver}
use Rattle.cps_search.specs.declared.log_items.TaskCounts.{TaskCounts}

-- an instance as it is made from its model: no sum was defined later
pub record IsUngrown (p : Problem) : Type 0 where
  pub sums : p.defs ≡ model_sums p.model
  pub tasks : p.tasks ≡ first_tasks p.model

-- how many variables, constraints and sums there are
abbrev pub counts_of : Problem → TaskCounts
counts_of p = record {
  variables = variable_count p;
  constraints = length p.model.constraints;
  sums = length p.defs;
}

-- the item of a clause that the task with a number gives
abbrev pub item_of : TaskCounts → ℕ → List Atom → LogItem
item_of n number clause =
    if nat_lt number n.constraints then items.Reason number clause
    else (if nat_lt number (n.constraints + n.sums) then items.Ends (n.variables + (number - n.constraints)) clause else items.Objective clause)

-- the subject of the sum that the task with a number defines, if it defines one
abbrev pub sum_subject : TaskCounts → ℕ → Option ℕ
sum_subject n number =
    if nat_lt number n.constraints then None
    else (if nat_lt (number - n.constraints) n.sums then Some (n.variables + (number - n.constraints)) else None)

-- the task is no sum's, or one of the first sums'
abbrev pub IsOfSums : TaskCounts → ℕ → ℕ → Type 0
IsOfSums n number sums = number < n.constraints + n.sums → number < n.constraints + sums

-- the task with a number gives a clause within the first domains
pub record IsGivenBy (tasks : List Task) (number : ℕ) (first : Domains) (clause : List Atom) : Type 0 where
  pub within : number < length tasks
  pub follows : (d : Task) → Follows (HoldsTask (slice_index_or tasks number d)) first clause

-- each of the model's variables has a value of its domain
abbrev pub AreVariableValues : Problem → List ℤ → Type 0
AreVariableValues p xs = (i : ℕ) → i < variable_count p → is_among (domain_at p.domains i) (value_at xs i) ≡ true

-- an expression over variables that a log may define, with the values of a sum
pub record IsExpressionOf (p : Problem) (s : DefinedSum) (e : LinearExpr) : Type 0 where
  pub definable : IsDefinable p.model.variables e
  pub value : (xs : List ℤ) → AreVariableValues p xs → expression_value xs e ≡ sum_value xs s
  pub least : least_value p.model.variables e ≡ least_sum_of p.domains s
  pub greatest : greatest_value p.model.variables e ≡ greatest_sum_of p.domains s

-- a subject that is 0 alone
abbrev pub is_zero : Intervals → Bool
is_zero ps = equals (least_of ps) (pos 0) && equals (greatest_of ps) (pos 0)

-- The terms but those whose subject is 0 alone. Only the coefficient of such a one can be greater than those of a log.
abbrev pub kept_terms : Domains → List Term → List Term
kept_terms ds [] = []
kept_terms ds (t ∷ ts) = if is_zero (domain_at ds t.subject) then kept_terms ds ts else t ∷ kept_terms ds ts

-- a sum over variables as an expression
abbrev pub expression_of : Domains → DefinedSum → LinearExpr
expression_of ds s = record {
  vars = map (λ t. pos t.subject) (kept_terms ds s.terms);
  coeffs = map (λ t. t.coeff) (kept_terms ds s.terms);
  offset = s.offset;
}

-- an expression for the sum that a task defines, which is over variables
pub record HasExpression (p : Problem) (body : Body) (e : LinearExpr) : Type 0 where
  pub subject : ℕ
  pub sum : DefinedSum
  pub body_is : body ≡ Sum subject sum.terms sum.offset
  pub over : All (λ t. t.subject < variable_count p) sum.terms
  pub is : e ≡ expression_of p.domains sum

-- the sums of a log are the first ones of an instance
pub record AreSumsOf (p : Problem) (sums : List LinearExpr) : Type 0 where
  pub within : length sums ≤ length p.defs
  pub each : (k : ℕ) (s : DefinedSum) (e : LinearExpr) → k < length sums
      → IsExpressionOf p (slice_index_or p.defs k s) (slice_index_or sums k e)

-- a clause that can be an item: it is over the subjects so far, and so is the sum whose task gives it
pub record HasItem (p : Problem) (number : ℕ) (sums : List LinearExpr) (clause : List Atom) : Type 0 where
  pub are : AreSumsOf p sums
  pub over : IsClauseOver (subject_count p.model.variables sums) clause
  pub own : IsOfSums (counts_of p) number (length sums)
