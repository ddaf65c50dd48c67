-- The tasks of elements and tables.
use Rattle.std.proofs.Common.{◌≡◌, List, ap, ◌∙◌}
use Rattle.cps_literal.specs.declared.atom.Atom.{Atom}
use Rattle.cps_instance.specs.declared.task.Task.{Task}
use Rattle.cps_instance.specs.declared.task.Body.{Body}
use Rattle.cps_enforce.specs.Reasons.{task_of}

pub whole : (t p : Task) (us : List Atom) (b : Body) → us ≡ t.enforcement → b ≡ t.body → p ≡ task_of us b → p ≡ t
whole t p us b e f made = made ∙ ap (λ (vs : List Atom). task_of vs b) e ∙ ap (λ (c : Body). task_of t.enforcement c) f
