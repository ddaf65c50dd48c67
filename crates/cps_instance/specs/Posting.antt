-- How the parts of a model are written as tasks.
use Rattle.std.specs.Prelude.{◌≡◌, ℕ, ◌+◌, ◌<◌, ◌^◌, unsigned_abs, All, ℤ, pos, negsuc, IsTrue, length, Option, Some, None, List, [], ◌∷◌, ◌++◌, map, take, drop, slice_get, slice_index_or}
use Rattle.cps_model.specs.declared.model.CpModel.{CpModel}
use Rattle.cps_model.specs.declared.model.LinearExpr.{LinearExpr}
use Rattle.cps_model.specs.declared.model.Objective.{Objective}
use Rattle.cps_model.specs.declared.constraint.Constraint.{Constraint}
use Rattle.cps_model.specs.declared.constraint.Kind.{Kind}
use Rattle.cps_model.specs.declared.constraint.Kind.TheVariants as kinds
use Rattle.cps_model.specs.declared.model.Variable.{Variable}
use Rattle.cps_model.specs.Within.{is_within}
use Rattle.cps_domain.specs.Window.{is_among}
use Rattle.cps_literal.specs.declared.atom.Atom.{Atom}
use Rattle.cps_literal.specs.declared.atom.Op.TheVariants.{Le, Ge}
use Rattle.std.specs.List.{AllZip, list_all, flat_map}
use Rattle.cps_model.specs.Rules.{is_paired, sums_of, intervals_of}
use Rattle.cps_model.specs.KindRules.{names_interval}
use Rattle.cps_instance.specs.Problem.{Problem}
use Rattle.cps_instance.specs.declared.steering.Steering.{Steering}
use Rattle.cps_instance.specs.declared.term.Term.{Term}
use Rattle.cps_instance.specs.declared.task.Span.{Span}
use Rattle.cps_instance.specs.declared.task.Task.{Task}
use Rattle.cps_instance.specs.declared.task.Body.{Body}
use Rattle.cps_instance.specs.declared.task.Body.TheVariants as bodies
use Rattle.cps_instance.specs.Terms.{Intervals, Domains, AreIntervals}
use Rattle.cps_instance.specs.Writing.{terms_of, expression_sums, subjects_from}
use Rattle.cps_instance.specs.Lengths.{length_between}
use Rattle.cps_instance.specs.Sums.{DefinedSum}
use Rattle.cps_model.specs.Values.{reference_expression}

-- a literal is true where its variable is at least 1, and its opposite where it is at most 0
abbrev pub atom_of : ℤ → Atom
atom_of (pos i) = record { subject = i; op = Ge; value = pos 1 }
atom_of (negsuc i) = record { subject = i; op = Le; value = pos 0 }

-- the expressions of a kind that have subjects of their own
abbrev pub expressions_of : Kind → List LinearExpr
expressions_of (kinds.IntDiv target exprs) = target ∷ exprs
expressions_of (kinds.IntMod target exprs) = target ∷ exprs
expressions_of (kinds.IntProd target exprs) = target ∷ exprs
expressions_of (kinds.LinMax target exprs) = target ∷ exprs
expressions_of (kinds.Element index target exprs) = index ∷ target ∷ exprs
expressions_of (kinds.Table exprs values negated) = exprs
expressions_of (kinds.AllDiff exprs) = exprs
expressions_of (kinds.Interval start end size) = start ∷ end ∷ size ∷ []
expressions_of (kinds.Cumulative capacity intervals demands) = capacity ∷ demands
expressions_of (kinds.Inverse direct inverse) = map reference_expression direct ++ map reference_expression inverse
expressions_of (kinds.Automaton start finals tails heads labels exprs) = exprs
expressions_of (kinds.Reservoir min max times changes active) = times ++ changes
expressions_of kinds.Empty = []
expressions_of (kinds.BoolOr literals) = []
expressions_of (kinds.BoolAnd literals) = []
expressions_of (kinds.AtMostOne literals) = []
expressions_of (kinds.ExactlyOne literals) = []
expressions_of (kinds.BoolXor literals) = []
expressions_of (kinds.Linear vars coeffs domain) = []
expressions_of (kinds.Circuit tails heads literals) = []
expressions_of (kinds.NoOverlap intervals) = []
expressions_of (kinds.NoOverlap2d x y) = []

-- the subjects of each constraint's expressions, where `next` is that of the next sum
abbrev pub subject_lists : ℕ → List Constraint → List (List ℕ)
subject_lists next [] = []
subject_lists next (c ∷ cs) =
    subjects_from next (expressions_of c.kind) ∷ subject_lists
    (next + length (flat_map expression_sums (expressions_of c.kind))) cs

-- a span for an index of no interval constraint, which the rules exclude
abbrev pub no_span : Span
no_span = record { start = 0; end = 0; size = 0; presence = []; length = None }

-- an interval constraint as a span, where its expressions have these subjects
abbrev pub span_of : List ℕ → List ℤ → Kind → Span
span_of subjects enforcement (kinds.Interval start end size) = record {
  start = slice_index_or subjects 0 0;
  end = slice_index_or subjects 1 0;
  size = slice_index_or subjects 2 0;
  presence = map atom_of enforcement;
  length = length_between start end;
}
span_of subjects enforcement kind = no_span

abbrev pub span_of_constraint : List ℕ → Option Constraint → Span
span_of_constraint subjects None = no_span
span_of_constraint subjects (Some c) = span_of subjects c.enforcement c.kind

-- the span of an interval index, where the expressions of each constraint have these subjects
abbrev pub span_at : List Constraint → List (List ℕ) → ℤ → Span
span_at cs lists (pos i) = span_of_constraint (slice_index_or lists i []) (slice_get cs i)
span_at cs lists (negsuc i) = no_span

-- a kind as a body, where interval indices have these spans and its expressions these subjects
abbrev pub body_of : (ℤ → Span) → List ℕ → Kind → Body
body_of span subjects kinds.Empty = bodies.Empty
body_of span subjects (kinds.BoolOr literals) = bodies.BoolOr (map atom_of literals)
body_of span subjects (kinds.BoolAnd literals) = bodies.BoolAnd (map atom_of literals)
body_of span subjects (kinds.AtMostOne literals) = bodies.AtMostOne (map atom_of literals)
body_of span subjects (kinds.ExactlyOne literals) = bodies.ExactlyOne (map atom_of literals)
body_of span subjects (kinds.BoolXor literals) = bodies.BoolXor (map atom_of literals)
body_of span subjects (kinds.Linear vars coeffs domain) = bodies.Linear (terms_of vars coeffs) domain
body_of span subjects (kinds.IntDiv target exprs) = bodies.IntDiv (slice_index_or subjects 0 0) (drop 1 subjects)
body_of span subjects (kinds.IntMod target exprs) = bodies.IntMod (slice_index_or subjects 0 0) (drop 1 subjects)
body_of span subjects (kinds.IntProd target exprs) = bodies.IntProd (slice_index_or subjects 0 0) (drop 1 subjects)
body_of span subjects (kinds.LinMax target exprs) = bodies.LinMax (slice_index_or subjects 0 0) (drop 1 subjects)
body_of span subjects (kinds.Element index target exprs) = bodies.Element (slice_index_or subjects 0 0)
    (slice_index_or subjects 1 0) (drop 2 subjects)
body_of span subjects (kinds.Table exprs values negated) = bodies.Table subjects values negated
body_of span subjects (kinds.AllDiff exprs) = bodies.AllDiff subjects
body_of span subjects (kinds.Circuit tails heads literals) = bodies.Circuit tails heads (map atom_of literals)
body_of span subjects (kinds.Interval start end size) = bodies.Interval (slice_index_or subjects 0 0)
    (slice_index_or subjects 1 0) (slice_index_or subjects 2 0)
body_of span subjects (kinds.NoOverlap intervals) = bodies.NoOverlap (map span intervals)
body_of span subjects (kinds.Cumulative capacity intervals demands) = bodies.Cumulative (slice_index_or subjects 0 0)
    (map span intervals) (drop 1 subjects)
body_of span subjects (kinds.Inverse direct inverse) = bodies.Inverse (take (length direct) subjects)
    (drop (length direct) subjects)
body_of span subjects (kinds.Automaton start finals tails heads labels exprs) = bodies.Automaton start finals tails heads labels subjects
body_of span subjects (kinds.Reservoir min max times changes active) = bodies.Reservoir min max
    (take (length times) subjects) (drop (length times) subjects) (map atom_of active)
body_of span subjects (kinds.NoOverlap2d x y) = bodies.NoOverlap2d (map span x) (map span y)

abbrev pub task_of : (ℤ → Span) → List ℕ → Constraint → Task
task_of span subjects c = record { enforcement = map atom_of c.enforcement; body = body_of span subjects c.kind }

abbrev pub tasks_with : (ℤ → Span) → List Constraint → List (List ℕ) → List Task
tasks_with span [] lists = []
tasks_with span (c ∷ cs) [] = []
tasks_with span (c ∷ cs) (subjects ∷ lists) = task_of span subjects c ∷ tasks_with span cs lists

-- the tasks of all constraints, where the expressions of each have these subjects
abbrev pub constraint_tasks : List Constraint → List (List ℕ) → List Task
constraint_tasks cs lists = tasks_with (span_at cs lists) cs lists

-- without an objective its sum is 0 and its list empty
abbrev pub objective_terms : Option Objective → List Term
objective_terms None = []
objective_terms (Some o) = terms_of o.vars o.coeffs

abbrev pub objective_bounds : Option Objective → List ℤ
objective_bounds None = []
objective_bounds (Some o) = o.domain

abbrev pub list_task : Option Objective → Task
list_task o = record { enforcement = []; body = bodies.ObjectiveList (objective_terms o) (objective_bounds o) }

abbrev pub cut_task : Option Objective → Task
cut_task o = record { enforcement = []; body = bodies.Cut (objective_terms o) None }

-- the tasks of the objective: of its list and of its cut
abbrev pub objective_tasks : CpModel → List Task
objective_tasks m = list_task m.objective ∷ (cut_task m.objective ∷ [])

-- the sums that tasks define
abbrev pub sums_of_body : Body → List DefinedSum
sums_of_body (bodies.Sum subject terms offset) = record { terms = terms; offset = offset } ∷ []
sums_of_body body = []

abbrev pub sums_in : List Task → List DefinedSum
sums_in [] = []
sums_in (t ∷ ts) = sums_of_body t.body ++ sums_in ts

-- the value of an instance with this model, these domains, tasks and strategies
abbrev pub problem_of : CpModel → Domains → List Task → List Steering → Problem
problem_of m ds ts gs = record { model = m; defs = sums_in ts; domains = ds; tasks = ts; steering = gs }

abbrev pub HasSmallOffset : LinearExpr → Type 0
HasSmallOffset e = unsigned_abs e.offset < 2 ^ 62

-- Each expression of a kind has a subject and a small offset, its sums have a coefficient for each reference, and its
-- interval indices are those of interval constraints.
pub record CanBePosted (cs : List Constraint) (subjects : List ℕ) (k : Kind) : Type 0 where
  pub each : length subjects ≡ length (expressions_of k)
  pub offsets : All HasSmallOffset (expressions_of k)
  pub paired : IsTrue (list_all is_paired (sums_of k))
  pub intervals : IsTrue (list_all (names_interval cs) (intervals_of k))

-- each constraint of a list, in a model of these constraints
abbrev pub CanAllBePosted : List Constraint → List (List ℕ) → Type 0
CanAllBePosted cs lists = AllZip (λ c subjects. CanBePosted cs subjects c.kind) cs lists

abbrev pub IsPairedObjective : Option Objective → Type 0
IsPairedObjective None = Unit {0}
IsPairedObjective (Some o) = length o.vars ≡ length o.coeffs

-- the domain has exactly the variable's values
pub record HasValuesOf (v : Variable) (ps : Intervals) : Type 0 where
  pub sound : AreIntervals ps
  pub values : (x : ℤ) → is_among ps x ≡ is_within v.domain x

abbrev pub HaveValuesOf : List Variable → Domains → Type 0
HaveValuesOf vs ds = AllZip HasValuesOf vs ds
