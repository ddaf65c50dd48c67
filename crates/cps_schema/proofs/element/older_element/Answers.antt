-- The element's parts are the expressions of its references, and none is written.
use Rattle.std.proofs.Common.{rules, ◌≡◌, ◌∙◌, map, refl}
use Rattle.cps_model.specs.Values.{reference_expression}
use Rattle.cps_schema.proofs.element.older_element.Goals as goal

pub returns : goal.returns
returns c =
    let index : c.in_ok-reference_expression.field-0 ≡ reference_expression c.args.older.index = search rules in
    let target : c.in_ok-reference_expression-2.field-0 ≡ reference_expression c.args.older.target = search rules in
    let exprs : c.of.result ≡ map reference_expression c.args.older.vars = c.of.ensures ∙ rw (c.new.ensures.items, c.into_vec.ensures) refl in
    rw (index, target, exprs) refl
