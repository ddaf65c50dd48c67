-- One more constraint has its task.
use Rattle.std.proofs.Common.{◌≡◌, ℕ, ◌<◌, List, [], ◌∷◌, ◌++◌, length, take, sym, ap, subst, ◌∙◌, arith}
use Rattle.std.proofs.lemmas.List.{take_all}
use Rattle.cps_model.specs.declared.constraint.Constraint.{Constraint}
use Rattle.cps_instance.specs.declared.task.Task.{Task}
use Rattle.cps_instance.specs.Posting.{span_at, task_of, tasks_with, CanBePosted}
use Rattle.cps_instance.proofs.Valuing.{zip_length}
use Rattle.cps_instance.proofs.Placing.{zip_at, tasks_with-more}
use Rattle.cps_instance.proofs.tasks.constraint_tasks.Goals as goal

pub bounds-lists-k : goal.bounds-lists-k
bounds-lists-k c =
    let long = zip_length (λ d js. CanBePosted c.args.constraints.now js d.kind) c.args.constraints.now c.args.lists.now c.requires in
    omega arith

pub task_of-requires-clause-own : goal.task_of-requires-clause-own
task_of-requires-clause-own c =
    let cs = c.args.constraints.now in
    let d = c.index-constraints-k.result in
    let l : c.loop-k.k < length cs = omega arith in
    let posted = zip_at (λ e js. CanBePosted cs js e.kind) cs c.args.lists.now c.requires c.loop-k.k d c.index-lists-k.result l c.index-constraints-k.is c.index-lists-k.is in
    subst (λ (is : List ℕ). CanBePosted cs is d.kind) (sym c.as_slice.ensures) posted

pub loop-k-preserved : goal.loop-k-preserved
loop-k-preserved c =
    let cs = c.args.constraints.now in
    let lists = c.args.lists.now in
    let k = c.loop-k.k in
    let d = c.index-constraints-k.result in
    let span = span_at cs lists in
    let l : k < length cs = omega arith in
    let long = zip_length (λ e js. CanBePosted cs js e.kind) cs lists c.requires in
    let more = tasks_with-more span cs lists k d c.index-lists-k.result l (omega arith) c.index-constraints-k.is c.index-lists-k.is in
    let own : c.in_ok-task.task ≡ task_of span c.index-lists-k.result d = c.in_ok-task.ensures ∙ ap (λ (is : List ℕ). task_of span is d) c.as_slice.ensures in
    c.in_ok-push.ensures.items
    ∙ ap (λ (ts : List Task). ts ++ c.in_ok-task.task ∷ []) c.loop-k.invariant
    ∙ ap (λ (t : Task). tasks_with span (take k cs) (take k lists) ++ t ∷ []) own
    ∙ sym more

pub returns : goal.returns
returns c =
    let cs = c.args.constraints.now in
    let lists = c.args.lists.now in
    let long = zip_length (λ e js. CanBePosted cs js e.kind) cs lists c.requires in
    c.loop-k.invariant
    ∙ ap (λ (ds : List Constraint). tasks_with (span_at cs lists) ds (take c.loop-k.k lists)) (take_all c.loop-k.k cs (omega arith))
    ∙ ap (λ (ls : List (List ℕ)). tasks_with (span_at cs lists) cs ls) (take_all c.loop-k.k lists (omega arith))
