-- The task of an all-different.
use Rattle.std.specs.Prelude.{IsTrue}
use Rattle.std.proofs.Common.{◌≡◌, List, refl, ap, ◌∙◌}
use Rattle.cps_literal.specs.declared.atom.Atom.{Atom}
use Rattle.cps_instance.specs.declared.task.Task.{Task}
use Rattle.cps_instance.specs.declared.task.Body.{Body}
use Rattle.cps_instance.specs.declared.task.Body.TheVariants.{AllDiff}
use Rattle.cps_enforce.specs.Reasons.{task_of}
use Rattle.cps_enforce.specs.Tasks.{IsCostly}
use Rattle.cps_p_alldiff.specs.Bars.{is_all_diff}

pub costly : (b : Body) → IsTrue (is_all_diff b) → IsCostly b
costly (AllDiff is) h = record { cut = refl; cheap = refl }
costly _ h = cc h

pub whole : (t p : Task) (us : List Atom) (b : Body) → us ≡ t.enforcement → b ≡ t.body → p ≡ task_of us b → p ≡ t
whole t p us b e f made = made ∙ ap (λ (vs : List Atom). task_of vs b) e ∙ ap (λ (c : Body). task_of t.enforcement c) f
