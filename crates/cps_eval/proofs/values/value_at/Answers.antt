-- A place among those that are written out, behind them, or past them all.
use Rattle.std.specs.Prelude.{Some, slice_get}
use Rattle.std.specs.List.{list_all}
use Rattle.std.proofs.Common.{rules, ◌≡◌, ◌+◌, ◌-◌, true, ℤ, pos, List, length, get_or, FitsSigned, w32, w64, ap, sym, subst, ◌∙◌, arith}
use Rattle.std.proofs.lemmas.Int.{to_z-of_z}
use Rattle.cps_model.specs.declared.model.LinearExpr.{LinearExpr}
use Rattle.cps_model.specs.Values.{reference_value}
use Rattle.cps_model.specs.Meaning.{values_of}
use Rattle.cps_model.specs.Rules.{names}
use Rattle.cps_model.specs.Ready.{is_ready}
use Rattle.cps_validate.proofs.Passing.{all_at}
use Rattle.cps_eval.proofs.Listing.{both_ready, named_at, value_written, value_behind, value_past}
use Rattle.cps_eval.proofs.values.value_at.Goals as goal

pub expression_value-requires-clause-ready : goal.expression_value-requires-clause-ready
expression_value-requires-clause-ready c =
    let a = c.args.values.now in
    let es = c.parts.result.0.now in
    let both = both_ready a es c.parts.result.1.now (ap (λ (xs : List LinearExpr). list_all (is_ready a) xs) (sym c.parts.ensures) ∙ c.requires.ready) in
    all_at (is_ready a) es c.args.place c.index-written-place.result both.0 c.if-place-written.true c.index-written-place.is

pub reference_value-requires-clause-named : goal.reference_value-requires-clause-named
reference_value-requires-clause-named c =
    let a = c.args.values.now in
    let rs = c.parts.result.1.now in
    let both = both_ready a c.parts.result.0.now rs (ap (λ (xs : List LinearExpr). list_all (is_ready a) xs) (sym c.parts.ensures) ∙ c.requires.ready) in
    let k = c.args.place - length c.parts.result.0.now in
    let fits : FitsSigned w32 (get_or rs k (pos 0)) = search rules in
    subst (λ (z : ℤ). names (length a) z ≡ true) (sym (to_z-of_z w32 _ fits)) (named_at (length a) rs k both.1 c.if-behind-references.true)

pub returns-then-behind-references : goal.returns-then-behind-references
returns-then-behind-references c =
    let a = c.args.values.now in
    let es = c.parts.result.0.now in
    let rs = c.parts.result.1.now in
    let place = c.args.place in
    let k = place - length es in
    let r = get_or rs k (pos 0) in
    let fr : FitsSigned w32 r = search rules in
    let is_v : c.reference_value.result ≡ reference_value a r = simp to_z-of_z at c.reference_value.ensures in
    let at : place ≡ length es + k = omega (arith, c.if-place-written.false) in
    let fv : FitsSigned w64 c.reference_value.result = search rules in
    ap (λ (z : ℤ). Some z) (to_z-of_z w64 _ fv ∙ is_v) ∙ sym (value_behind a es rs place k at c.if-behind-references.true) ∙ ap (λ (xs : List LinearExpr). slice_get (values_of a xs) place) (sym c.parts.ensures)

pub returns : goal.returns
returns c =
    let a = c.args.values.now in
    let es = c.parts.result.0.now in
    let rs = c.parts.result.1.now in
    let place = c.args.place in
    let at : place ≡ length es + (place - length es) = omega (arith, c.if-place-written.false) in
    sym (value_past a es rs place (place - length es) at c.if-behind-references.false) ∙ ap (λ (xs : List LinearExpr). slice_get (values_of a xs) place) (sym c.parts.ensures)

pub returns-then-place-written : goal.returns-then-place-written
returns-then-place-written c =
    let a = c.args.values.now in
    let es = c.parts.result.0.now in
    let rs = c.parts.result.1.now in
    let place = c.args.place in
    let v = c.expression_value.result in
    let fv : FitsSigned w64 v = search rules in
    ap (λ (z : ℤ). Some z) (to_z-of_z w64 v fv ∙ c.expression_value.ensures.value) ∙ sym (value_written a es rs place c.index-written-place.result c.if-place-written.true c.index-written-place.is) ∙ ap (λ (xs : List LinearExpr). slice_get (values_of a xs) place) (sym c.parts.ensures)
