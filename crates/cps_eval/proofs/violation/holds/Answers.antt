-- A valid model can be evaluated within its domains, and so can each of its constraints.
use Rattle.std.specs.Prelude.{Some}
use Rattle.std.proofs.Common.{◌≡◌, ◌∙◌, sym, ap, rules}
use Rattle.std.proofs.lemmas.Option.{slice_get-get_or}
use Rattle.std.specs.List.{slice_get}
use Rattle.cps_model.specs.Solutions.{IsWithinDomains}
use Rattle.cps_model.specs.Ready.{is_ready_constraint, IsReady}
use Rattle.cps_model.proofs.Inside.{model_ready}
use Rattle.cps_model.proofs.Tests.{list_all-slice_get}
use Rattle.cps_eval.proofs.violation.holds.Goals as goal

pub is_satisfied-requires-clause-constraints : goal.is_satisfied-requires-clause-constraints
is_satisfied-requires-clause-constraints c =
    let within : IsWithinDomains c.model.result.now c.args.values.now = cc in
    let ready : IsReady c.model.result.now c.args.values.now = model_ready c.model.result.now c.args.values.now c.model.ensures.valid within in
    search rules

pub is_satisfied-requires-clause-ready : goal.is_satisfied-requires-clause-ready
is_satisfied-requires-clause-ready c =
    let m = c.model.result.now in
    let this = c.index-constraints-constraint.result in
    let within : IsWithinDomains m c.args.values.now = cc in
    let is : slice_get m.constraints c.args.constraint ≡ Some this =
    slice_get-get_or m.constraints c.args.constraint this (rw c.model.ensures.same c.requires.exists) ∙ ap (λ x. Some x) (sym (rw (← c.as_slice-constraints.ensures) c.index-constraints-constraint.is)) in
    list_all-slice_get (is_ready_constraint c.args.values.now) m.constraints c.args.constraint this (model_ready m c.args.values.now c.model.ensures.valid within).constraints is

pub is_satisfied-requires-clause-small : goal.is_satisfied-requires-clause-small
is_satisfied-requires-clause-small c =
    let within : IsWithinDomains c.model.result.now c.args.values.now = cc in
    (model_ready c.model.result.now c.args.values.now c.model.ensures.valid within).small
