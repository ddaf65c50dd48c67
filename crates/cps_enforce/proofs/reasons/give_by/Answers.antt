use Rattle.std.proofs.Common.{List, sym, subst}
use Rattle.cps_literal.specs.declared.atom.Atom.{Atom}
use Rattle.cps_instance.specs.Tasks.{HoldsTask}
use Rattle.cps_enforce.specs.Reasons.{IsReasonFor, task_of}
use Rattle.cps_enforce.proofs.Tasks.{explained_reason}
use Rattle.cps_enforce.proofs.reasons.give_by.Goals as goal

pub returns : goal.returns
returns c = λ body explained.
    subst (λ (l : List Atom). IsReasonFor (task_of c.args.enforcement.now body) c.args.past.now c.args.target l) (sym c.in_ok-push.ensures.items)
    (explained_reason c.args.past.now c.args.enforcement.now c.args.facts.now c.deny_both.new.reason.items c.args.target body c.in_ok-deny_both.ensures c.requires.subject explained)
