-- The subjects of the enforcement atoms come first, and then those of the body.
use Rattle.std.proofs.Common.{◌∙◌, ◌++◌, List, ℕ, ap, append_assoc}
use Rattle.cps_instance.specs.Tasks.{atom_subjects, subjects_of_body}
use Rattle.cps_enforce.proofs.Denials.{on_ok}
use Rattle.cps_enforce.proofs.reasons.push_all_subjects.Goals as goal

pub returns : goal.returns
returns g c =
    let b = g.R.Rule.body c.args.rule.now in
    on_ok c.push_subjects.result _ _ c.push_subjects.ensures (λ pushed. pushed ∙ ap (λ (is : List ℕ). is ++ subjects_of_body b) c.in_ok-push_atom_subjects.ensures ∙ append_assoc c.args.subjects.now.items (atom_subjects c.args.enforcement.now) (subjects_of_body b))
