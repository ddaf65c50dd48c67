-- The rules give the law.
use Rattle.std.proofs.Common.{subst}
use Rattle.cps_validate.specs.Laws.{HasNoNegativeDemand}
use Rattle.cps_validate.proofs.Lawful.{demands}
use Rattle.cps_validate.proofs.laws.demands_are_not_negative.Goals as goal

pub returns : goal.returns
returns c = subst HasNoNegativeDemand c.model.ensures.same (demands c.model.result.now c.model.ensures.valid)
