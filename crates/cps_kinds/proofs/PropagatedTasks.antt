-- The first tasks of a model whose kinds all have propagators are tasks that have one.
use Rattle.std.specs.Prelude.{All}
use Rattle.std.proofs.Common.{◌≡◌, ℕ, ◌+◌, true, List, [], ◌∷◌, ◌++◌, length, refl, ℤ}
use Rattle.std.proofs.lemmas.List.Elements.{All-nil, All-cons, All-head, All-tail, All-append}
use Rattle.cps_model.specs.declared.model.CpModel.{CpModel}
use Rattle.cps_model.specs.declared.constraint.Constraint.{Constraint}
use Rattle.cps_model.specs.declared.constraint.Kind.{Kind}
use Rattle.cps_model.specs.declared.constraint.Kind.TheVariants as kinds
use Rattle.cps_instance.specs.declared.task.Span.{Span}
use Rattle.cps_instance.specs.declared.task.Task.{Task}
use Rattle.cps_instance.specs.Sums.{DefinedSum}
use Rattle.cps_instance.specs.Problem.{sum_task, sum_tasks}
use Rattle.cps_instance.specs.Posting.{span_at, body_of, task_of, tasks_with, constraint_tasks, subject_lists, list_task, cut_task, objective_tasks}
use Rattle.cps_instance.specs.Strategies.{model_sums, first_of_constraints, first_tasks}
use Rattle.cps_kinds.specs.Kinds.{has_propagator, is_propagated, AreAllPropagated}

abbrev pub HasPropagator : Task → Type 0
HasPropagator t = has_propagator t.body ≡ true

body_has : (span : ℤ → Span) (is : List ℕ) (k : Kind) → is_propagated k ≡ true → has_propagator (body_of span is k) ≡ true
body_has span is kinds.Empty h = refl
body_has span is kind h = h

constraints_have : (span : ℤ → Span) (cs : List Constraint) (lists : List (List ℕ)) → All (λ c. is_propagated c.kind ≡ true) cs → All HasPropagator (tasks_with span cs lists)
constraints_have span [] lists h = All-nil HasPropagator
constraints_have span (c ∷ cs) [] h = All-nil HasPropagator
constraints_have span (c ∷ cs) (is ∷ lists) h =
    All-cons HasPropagator (task_of span is c) (tasks_with span cs lists)
    (body_has span is c.kind (All-head (λ c. is_propagated c.kind ≡ true) c cs h))
    (constraints_have span cs lists (All-tail (λ c. is_propagated c.kind ≡ true) c cs h))

sums_have : (n : ℕ) (ss : List DefinedSum) → All HasPropagator (sum_tasks n ss)
sums_have n [] = All-nil HasPropagator
sums_have n (s ∷ ss) = All-cons HasPropagator (sum_task n s) (sum_tasks (n + 1) ss) refl (sums_have (n + 1) ss)

-- what an engine of a model's instance asks, where each kind of the model is one with a propagator
pub first_tasks-have : (m : CpModel) → AreAllPropagated m → All HasPropagator (first_tasks m)
first_tasks-have m h =
    let lists = subject_lists (first_of_constraints m) m.constraints in
    let sums = sum_tasks (length m.variables) (model_sums m) in
    let objective = All-cons HasPropagator (list_task m.objective) (cut_task m.objective ∷ []) refl (All-cons HasPropagator (cut_task m.objective) [] refl (All-nil HasPropagator)) in
    All-append HasPropagator (constraint_tasks m.constraints lists) (sums ++ objective_tasks m) (constraints_have (span_at m.constraints lists) m.constraints lists h)
    (All-append HasPropagator sums (objective_tasks m) (sums_have (length m.variables) (model_sums m)) objective)
