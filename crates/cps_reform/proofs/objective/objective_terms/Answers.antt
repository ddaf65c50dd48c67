use Rattle.std.proofs.Common.{Option, sym, subst}
use Rattle.cps_model.specs.declared.model.Objective.{Objective}
use Rattle.cps_instance.specs.Posting.{IsPairedObjective}
use Rattle.cps_instance.proofs.Instances.{can_post}
use Rattle.cps_reform.proofs.objective.objective_terms.Goals as goal

pub terms_of_objective-requires : goal.terms_of_objective-requires
terms_of_objective-requires c =
    subst (λ (o : Option Objective). IsPairedObjective o) (sym c.objective.ensures) (can_post c.args.instance.now.model c.domains.ensures.sound.valid).objective
