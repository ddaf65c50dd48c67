-- The task is that of the enforcement atoms and the rule.
use Rattle.std.proofs.Common.{◌∙◌, List, ap, sym, subst}
use Rattle.cps_literal.specs.declared.atom.Atom.{Atom}
use Rattle.cps_instance.specs.declared.task.Task.{Task}
use Rattle.cps_instance.specs.Fitting.{IsFitting}
use Rattle.cps_enforce.specs.Reasons.{task_of}
use Rattle.cps_enforce.proofs.enforced.EnforcedPropagator.explain_into.Goals as goal

pub explain_by_rule-requires-clause-fits : goal.explain_by_rule-requires-clause-fits
explain_by_rule-requires-clause-fits g c =
    let b = g.R.Rule.body c.self.inside.rule in
    subst (λ (t : Task). IsFitting c.args.store.now.first t) (sym (ap (λ (us : List Atom). task_of us b) c.as_slice-enforcement.ensures.value ∙ c.self.view_is)) c.requires.fits

pub explain_by_past-requires-clause-fits : goal.explain_by_past-requires-clause-fits
explain_by_past-requires-clause-fits g c =
    let b = g.R.Rule.body c.self.inside.rule in
    subst (λ (t : Task). IsFitting c.args.store.now.first t) (sym (ap (λ (us : List Atom). task_of us b) c.as_slice-enforcement.ensures.value ∙ c.self.view_is)) c.requires.fits
