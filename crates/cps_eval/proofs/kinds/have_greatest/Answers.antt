-- What is judged are the values of the expressions.
use Rattle.std.proofs.Common.{◌≡◌, ◌∙◌, rules, FitsSigned, w64}
use Rattle.std.proofs.lemmas.Int.{to_z-of_z}
use Rattle.cps_model.specs.Meaning.{values_of}
use Rattle.cps_eval.proofs.kinds.have_greatest.Goals as goal

pub returns : goal.returns
returns c =
    let fits : FitsSigned w64 c.expression_value.result = search rules in
    let is = simp to_z-of_z at c.is_greatest.ensures in
    let numbers : c.as_slice.result.now ≡ values_of c.args.values.now c.args.exprs.now = c.as_slice.ensures.value ∙ c.in_ok-numbers.ensures.value in
    rw (c.expression_value.ensures.value, numbers) at is
