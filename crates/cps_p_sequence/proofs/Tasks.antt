-- The tasks of these kinds.
use Rattle.std.specs.Prelude.{IsTrue}
use Rattle.std.proofs.Common.{◌≡◌, List, refl, ap, ◌∙◌}
use Rattle.cps_literal.specs.declared.atom.Atom.{Atom}
use Rattle.cps_instance.specs.declared.task.Task.{Task}
use Rattle.cps_instance.specs.declared.task.Body.{Body}
use Rattle.cps_instance.specs.declared.task.Body.TheVariants.{Inverse, Automaton}
use Rattle.cps_enforce.specs.Reasons.{task_of}
use Rattle.cps_enforce.specs.Tasks.{IsCostly}
use Rattle.cps_p_sequence.specs.Inverses.{is_inverse}
use Rattle.cps_p_sequence.specs.Networks.{is_automaton}

pub costly_inverse : (b : Body) → IsTrue (is_inverse b) → IsCostly b
costly_inverse (Inverse direct inverse) h = record { cut = refl; cheap = refl }
costly_inverse _ h = cc h

pub costly_automaton : (b : Body) → IsTrue (is_automaton b) → IsCostly b
costly_automaton (Automaton start finals tails heads labels exprs) h = record { cut = refl; cheap = refl }
costly_automaton _ h = cc h

pub whole : (t p : Task) (us : List Atom) (b : Body) → us ≡ t.enforcement → b ≡ t.body → p ≡ task_of us b → p ≡ t
whole t p us b e f made = made ∙ ap (λ (vs : List Atom). task_of vs b) e ∙ ap (λ (c : Body). task_of t.enforcement c) f
