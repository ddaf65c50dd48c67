use Rattle.std.proofs.Common.{get_or, sym, subst}
use Rattle.cps_trail.specs.Trail.{Trail}
use Rattle.cps_propagate.proofs.Past.{none_view, read}
use Rattle.cps_p_bool.specs.Denying.{AreLiterals, task_of}
use Rattle.cps_p_bool.specs.Explaining.{IsExplanation}
use Rattle.cps_p_bool.proofs.LazyReasons.{IsReasonBy-explained}
use Rattle.cps_p_bool.proofs.explain.explain_entry.Goals as goal

pub returns : goal.returns
returns c = λ is us b fits n.
    let u = (get_or c.entries.result.now c.args.entry none_view).atom in
    let t = task_of c.args.form.now.enforcement.now b in
    IsReasonBy-explained c.args.store.now c.args.entry t u c.explain_noted.new.reason.items (read c.args.store.now.entries c.entries.result.now c.args.entry c.entries.ensures.views c.requires.within)
    (subst (λ (v : Trail). IsExplanation v t u c.explain_noted.new.reason.items) c.before-past.ensures
    (c.explain_noted.ensures is us b (subst (λ (v : Trail). AreLiterals v.first us) (sym c.before-past.ensures) fits) n))
