-- The outcome is what the workers came to.
use Rattle.std.proofs.Common.{sym, subst, ◌∙◌, ap, List}
use Rattle.cps_search.specs.Ends.{Ending}
use Rattle.cps_crew.specs.declared.outcome.Outcome.{Outcome}
use Rattle.cps_crew.specs.Outcomes.{CameTo, best_of, core_of}
use Rattle.cps_crew.proofs.Outcomes.{apart_parts, good_outcome}
use Rattle.cps_crew.proofs.OutcomeLogs.{log_is_so, logged_as_asked}
use Rattle.cps_crew.proofs.conclusion.outcome_of.Goals as goal

pub returns-clause-good : goal.returns-clause-good
returns-clause-good c =
    let m = c.args.model.now in
    let o = c.args.options.now in
    let r = c.args.reached in
    let same = c.from_vec.ensures in
    let x : Outcome = record { status = c.status_of.result; solution = c.in_ok-solution.solution; upper = r.upper; lower = r.lower; core = c.in_ok-core.core; ends = c.from_vec.result } in
    let some = c.requires.range.some_worker in
    let came = subst (λ (es : List Ending). CameTo m o r.upper r.lower es) (sym same) c.requires.came in
    let core = c.in_ok-core.ensures ∙ ap core_of c.as_slice-2.ensures.value ∙ ap core_of (sym same) in
    let status = c.status_of.ensures in
    let logged = logged_as_asked m o x some came in
    good_outcome m o x came status (c.in_ok-solution.ensures ∙ ap (best_of m) c.as_slice.ensures.value ∙ ap (best_of m) (sym same)) core some
    logged (log_is_so m o x c.requires.range came (apart_parts m o x came) status core logged)
