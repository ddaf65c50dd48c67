-- Those that are written out, and the references behind them.
use Rattle.std.specs.List.{list_all}
use Rattle.std.proofs.Common.{ℤ, List, ◌++◌, ap, sym, ◌∙◌}
use Rattle.cps_model.specs.declared.model.LinearExpr.{LinearExpr}
use Rattle.cps_model.specs.Meaning.{values_of, reference_values}
use Rattle.cps_model.specs.Ready.{is_ready}
use Rattle.cps_eval.proofs.Listing.{both_ready, values_of-all}
use Rattle.cps_eval.proofs.values.all_values.Goals as goal

pub values_of-requires-clause-ready : goal.values_of-requires-clause-ready
values_of-requires-clause-ready c =
    let a = c.args.values.now in
    (both_ready a c.parts.result.0.now c.parts.result.1.now (ap (λ (es : List LinearExpr). list_all (is_ready a) es) (sym c.parts.ensures) ∙ c.requires.ready)).0

pub reference_values-requires-clause-named : goal.reference_values-requires-clause-named
reference_values-requires-clause-named c =
    let a = c.args.values.now in
    (both_ready a c.parts.result.0.now c.parts.result.1.now (ap (λ (es : List LinearExpr). list_all (is_ready a) es) (sym c.parts.ensures) ∙ c.requires.ready)).1

pub returns : goal.returns
returns c =
    let a = c.args.values.now in
    let es = c.parts.result.0.now in
    let rs = c.parts.result.1.now in
    (c.in_ok-extend_from_slice.ensures {u = tt}).items
    ∙ ap (λ (vs : List ℤ). c.in_ok-numbers.numbers.items ++ vs) (c.as_slice.ensures.value ∙ c.in_ok-behind.ensures)
    ∙ ap (λ (vs : List ℤ). vs ++ reference_values a rs) c.in_ok-numbers.ensures.value
    ∙ sym (values_of-all a es rs)
    ∙ ap (λ (xs : List LinearExpr). values_of a xs) (sym c.parts.ensures)
