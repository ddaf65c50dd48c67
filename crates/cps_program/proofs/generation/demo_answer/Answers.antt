-- The outcome is good for the model that the words name, and its lines are written.
use Rattle.std.proofs.Common.{◌∙◌, ℕ, List, ap, refl, subst}
use Rattle.cps_model.specs.declared.model.CpModel.{CpModel}
use Rattle.cps_model.specs.Validity.{IsValid}
use Rattle.cps_print.specs.Demonstrations.{demo_text}
use Rattle.cps_program.proofs.Outcomes.{ready}
use Rattle.cps_program.proofs.Recipes.{demonstrated}
use Rattle.cps_program.proofs.generation.demo_answer.Goals as goal

pub demo_text-requires-clause-ready : goal.demo_text-requires-clause-ready
demo_text-requires-clause-ready c =
    ready c.in_ok-model.model c.model.result.now c.demo_options-options.result c.in_ok-outcome.outcome c.model.ensures.same c.model.ensures.valid
    c.in_ok-outcome.ensures.good

pub returns : goal.returns
returns c =
    let shown : CpModel → List ℕ = λ m. demo_text m c.in_ok-outcome.outcome.status c.in_ok-outcome.outcome.solution in
    demonstrated c.args.recipe.now c.in_ok-model.model c.demo_options-options.result c.in_ok-outcome.outcome _ c.in_ok-model.ensures.stated
    c.demo_options-options.ensures (subst IsValid c.model.ensures.same c.model.ensures.valid) c.in_ok-outcome.ensures.good c.in_ok-outcome.ensures.drawn refl
    refl (c.from_string.ensures ∙ c.in_ok-text.ensures ∙ ap shown c.model.ensures.same)
