-- The model that is stated can be shown.
use Rattle.std.proofs.Common.{sym, subst}
use Rattle.cps_model.specs.declared.model.CpModel.{CpModel}
use Rattle.cps_print.specs.Responses.{HasShowableLimits}
use Rattle.cps_program.proofs.Recipes.{generated_showable}
use Rattle.cps_program.proofs.generation.valid_model.Goals as goal

pub returns-in-Ok-clause-showable : goal.returns-in-Ok-clause-showable
returns-in-Ok-clause-showable c =
    let recipe = c.args.recipe.now in
    rw c.in-Ok.ensures.ok.0 (subst (λ (m : CpModel). HasShowableLimits m.objective) (sym c.in_ok-model.ensures.stated)
    (generated_showable recipe.family recipe.size recipe.seed))
