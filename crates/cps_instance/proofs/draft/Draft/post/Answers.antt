-- The constraints and the subjects of their expressions can be posted.
use Rattle.std.proofs.Common.{ℕ, List, Vec, Global, sym, subst, ◌∙◌, ap}
use Rattle.std.proofs.lemmas.Result.{IfOk-weaker}
use Rattle.cps_instance.specs.declared.task.Task.{Task}
use Rattle.cps_instance.specs.Problem.{next_subject}
use Rattle.cps_instance.specs.Posting.{constraint_tasks, CanAllBePosted}
use Rattle.cps_instance.proofs.Drafting.{can_be_posted}
use Rattle.cps_instance.proofs.draft.Draft.post.Goals as goal

pub constraint_tasks-requires : goal.constraint_tasks-requires
constraint_tasks-requires c =
    let cs = c.args.constraints.now in
    subst (λ (ls : List (List ℕ)). CanAllBePosted cs ls) (sym (c.as_slice.ensures.value ∙ c.in_ok-lists.ensures.own)) (can_be_posted c.args.self.now cs c.requires.constraints c.requires.begun (next_subject c.args.self.now))

pub returns-clause-tasks : goal.returns-clause-tasks
returns-clause-tasks c =
    let cs = c.args.constraints.now in
    let own = c.as_slice.ensures.value ∙ c.in_ok-lists.ensures.own in
    IfOk-weaker c.constraint_tasks.result _ _ (λ (ts : Vec Task Global). λ e. e ∙ ap (λ (ls : List (List ℕ)). constraint_tasks cs ls) own) c.constraint_tasks.ensures
