-- The references name variables where all expressions do.
use Rattle.std.specs.List.{list_all}
use Rattle.std.proofs.Common.{List, length, sym, ap, ◌∙◌}
use Rattle.cps_model.specs.declared.model.LinearExpr.{LinearExpr}
use Rattle.cps_model.specs.Rules.{names, names_variables}
use Rattle.cps_model.proofs.Tests.{and_true}
use Rattle.cps_model.proofs.References.{all_named}
use Rattle.cps_validate.proofs.expressions.all_have_small_reach.Goals as goal

pub references_have_small_reach-requires : goal.references_have_small_reach-requires
references_have_small_reach-requires c =
    let vs = c.args.variables.now in
    let es = c.parts.result.0.now in
    let rs = c.parts.result.1.now in
    let both = sym (all_named vs es rs) ∙ ap (λ (xs : List LinearExpr). list_all (names_variables vs) xs) (sym c.parts.ensures) ∙ c.requires.named in
    (and_true (list_all (names_variables vs) es) (list_all (names (length vs)) rs) both).1
