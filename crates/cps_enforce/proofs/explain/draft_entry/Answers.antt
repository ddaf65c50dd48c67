-- The domains before the entry are those of its first entries, and its atom is the one that is shown.
use Rattle.std.proofs.Common.{◌<◌, length, get_or, sym, subst, refl}
use Rattle.cps_instance.specs.Tasks.{HoldsTask}
use Rattle.cps_instance.specs.Fitting.{IsFitting}
use Rattle.cps_trail.specs.Trail.{Trail}
use Rattle.cps_propagate.proofs.Past.{none_view, read, subject_inside}
use Rattle.cps_enforce.specs.Reasons.{IsReasonFor, task_of}
use Rattle.cps_enforce.proofs.Tasks.{reason_at}
use Rattle.cps_enforce.proofs.explain.draft_entry.Goals as goal

pub explain_before-requires-clause-fits : goal.explain_before-requires-clause-fits
explain_before-requires-clause-fits g c = subst (λ (s : Trail). IsFitting s.first (task_of c.args.enforcement.now (g.R.Rule.body c.args.rule.now))) (sym c.before-past.ensures) c.requires.fits

pub explain_before-requires-clause-subject : goal.explain_before-requires-clause-subject
explain_before-requires-clause-subject g c =
    let l = subject_inside c.args.asked.now.store.now c.args.asked.now.entry (get_or c.entries.result.now c.args.asked.now.entry none_view).atom c.entries.ensures.sound c.requires.within (read c.args.asked.now.store.now.entries c.entries.result.now c.args.asked.now.entry c.entries.ensures.views c.requires.within) in
    subst (λ (s : Trail). (get_or c.entries.result.now c.args.asked.now.entry none_view).atom.subject < length s.first) (sym c.before-past.ensures) l

pub returns : goal.returns
returns g c = λ ok.
    let t = task_of c.args.enforcement.now (g.R.Rule.body c.args.rule.now) in
    let u = (get_or c.entries.result.now c.args.asked.now.entry none_view).atom in
    reason_at t c.args.asked.now.store.now c.args.asked.now.entry u c.explain_before.new.draft.reason.items c.explain_before.new.draft.reason.items c.requires.within (read c.args.asked.now.store.now.entries c.entries.result.now c.args.asked.now.entry c.entries.ensures.views c.requires.within) refl
    (subst (λ (s : Trail). IsReasonFor (task_of c.args.enforcement.now (g.R.Rule.body c.args.rule.now)) s u c.explain_before.new.draft.reason.items) c.before-past.ensures (c.explain_before.ensures ok))
