-- The rules give the law.
use Rattle.std.proofs.Common.{subst}
use Rattle.cps_validate.specs.Laws.{RefusesOnlyZero}
use Rattle.cps_validate.proofs.Lawful.{refused}
use Rattle.cps_validate.proofs.laws.only_zero_is_refused.Goals as goal

pub returns : goal.returns
returns c = subst RefusesOnlyZero c.model.ensures.same (refused c.model.result.now c.model.ensures.valid)
